-- Epochs that go on to one another, one by one.
use Rattle.std.specs.Prelude.{List, [], ◌∷◌}
use Rattle.std.specs.List.{AllZip}
use Rattle.cmh_controller3.specs.Controller.{Controller}
use Rattle.cmh_epochs3.specs.Laws.{World}
use Rattle.cmh_model3.specs.Entries.{WorldEvent}
use Rattle.cmh_topology3.specs.Topology.{Topology}
use Rattle.cmh_segment3.specs.declared.segment.Segment.{Segment}
use Rattle.cmh_audit3.specs.Journals.{journal_of}
use Rattle.cmh_bases3.specs.Bases.{IsRestored}
use Rattle.cmh_history3.specs.Turns.{IsEpoch}
use Rattle.cmh_history3.specs.Worlds.{AreJournalsFrom, world_of}
use Rattle.cmh_history3.specs.Chains.{turns_to}

-- the controllers of the segments' bases
abbrev pub AreRestored : Topology → List Segment → List Controller → Type 0
AreRestored t segments controllers =
    AllZip (λ (g : Segment) (c : Controller). IsRestored t g.header.site g.header.epoch g.base c) segments controllers

-- The entries of the segments are an epoch.
pub record AreEpoch (t : Topology) (segments : List Segment) : Type 0 where
  pub events : List WorldEvent
  pub end : World
  pub epoch : IsEpoch t (world_of t segments) events end
  pub kept : AreJournalsFrom (world_of t segments) events (journal_of segments)

-- They are, and turns lead from its end to the bases of the next one.
pub record GoesOn (t : Topology) (segments next : List Segment) : Type 0 where
  pub events : List WorldEvent
  pub end : World
  pub epoch : IsEpoch t (world_of t segments) events end
  pub kept : AreJournalsFrom (world_of t segments) events (journal_of segments)
  pub turns : IsEpoch t end (turns_to t next) (world_of t next)

-- each goes on to the next one, and the last is an epoch
abbrev pub LeadOn : Topology → List Segment → List (List Segment) → Type 0
LeadOn t segments [] = AreEpoch t segments
LeadOn t segments (next ∷ more) = GoesOn t segments next × LeadOn t next more

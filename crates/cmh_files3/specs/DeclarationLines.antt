-- The declarations of a run as lines.
use Rattle.std.specs.Prelude.{◌≡◌, ℕ, List, flat_map}
use Rattle.cmh_model3.specs.Entries.{WorldEvent}
use Rattle.cmh_model3.specs.Runs.{IsRun}
use Rattle.cmh_topology3.specs.Topology.{Topology, site_of}
use Rattle.cmh_segment3.specs.declared.segment.Segment.{Segment}
use Rattle.cmh_audit3.specs.Journals.{AreJournalsOf, journal_of}
use Rattle.cmh_report3.specs.Reports.{AreTold}
use Rattle.cmh_report3.specs.Texts.{deadlock_line}
use Rattle.cmh_report3.specs.declared.cycle.Deadlock.{Deadlock}

-- a line for each declaration of the events, in their order, in the words of a report
pub record TellDeclarations (events : List WorldEvent) (text : List ℕ) : Type 0 where
  pub told : List Deadlock
  pub are_told : AreTold events told
  pub text_is : text ≡ flat_map deadlock_line told

-- those of a run from which the segments come
pub record AreDeclarationLines (t : Topology) (segments : List Segment) (text : List ℕ) : Type 0 where
  pub events : List WorldEvent
  pub run : IsRun (site_of t) events
  pub journals : AreJournalsOf events (journal_of segments)
  pub lines : TellDeclarations events text

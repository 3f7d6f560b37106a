-- The world that the bases of all sites say together, and the runs from there.
use Rattle.std.specs.Prelude.{◌≡◌, ℕ, ◌==◌, List, [], ◌∷◌, map, if◌then◌else◌}
use Rattle.std.specs.List.{AllZip}
use Rattle.cmh_controller3.specs.Controller.{Controller}
use Rattle.cmh_epochs3.specs.Laws.{IsRunFrom, World}
use Rattle.cmh_model3.specs.Entries.{WorldEvent}
use Rattle.cmh_model3.specs.Journals.{state_after}
use Rattle.cmh_model3.specs.Runs.{entries_of}
use Rattle.cmh_model3.specs.State.{State, empty_state}
use Rattle.cmh_model3.specs.declared.frame.Message.{Message}
use Rattle.cmh_topology3.specs.Topology.{Topology, site_of, sites_of}
use Rattle.cmh_segment3.specs.declared.entry.Entry.{Entry}
use Rattle.cmh_segment3.specs.declared.segment.Segment.{Segment}
use Rattle.cmh_segment3.specs.Entries.{step_of}
use Rattle.cmh_segment3.specs.States.{state_in}
use Rattle.cmh_segment3.specs.Steps.{entries_from}
use Rattle.cmh_audit3.specs.Journals.{journal_of}
use Rattle.cmh_audit3.specs.Standing.{StandsAt}
use Rattle.cmh_history3.specs.Between.{between}

-- the state in which a site's segment begins; what has no segment has done nothing
abbrev pub state_at : List Segment → ℕ → State
state_at [] s = empty_state
state_at (g ∷ segments) s = if g.header.site == s then state_in g.header.epoch g.base else state_at segments s

abbrev pub world_of : Topology → List Segment → World
world_of t segments = record { state = state_at segments; under_way = between (sites_of t) segments }

-- the controllers are those of the segments' sites, in the order of the segments, and each stands in the state of its base
abbrev pub StandAtBases : Topology → List Segment → List Controller → Type 0
StandAtBases t segments controllers =
    AllZip (λ (g : Segment) (c : Controller). StandsAt t g.header.site (state_in g.header.epoch g.base) c) segments controllers

-- The journals, given by site number, are those of the list: each has just the entries of the steps that its site has there,
-- from the clock that it has in the world.
abbrev pub AreJournalsFrom : World → List WorldEvent → (ℕ → List Entry) → Type 0
AreJournalsFrom world events journals = (s : ℕ) → entries_from (world.state s).clock (entries_of s events) ≡ journals s

-- they come from a run from the world
pub record ComeFromRunFrom (t : Topology) (world : World) (journals : ℕ → List Entry) : Type 0 where
  pub events : List WorldEvent
  pub run : IsRunFrom (site_of t) world events
  pub kept : AreJournalsFrom world events journals

-- the segments come from a run from their bases
abbrev pub ComeFromRun : Topology → List Segment → Type 0
ComeFromRun t segments = ComeFromRunFrom t (world_of t segments) (journal_of segments)

-- where the entries of the segments lead, with this under way
abbrev pub end_of : Topology → List Segment → (ℕ → ℕ → List Message) → World
end_of t segments under_way = record {
  state = λ s. state_after (site_of t) s (state_at segments s) (map step_of (journal_of segments s));
  under_way = under_way;
}

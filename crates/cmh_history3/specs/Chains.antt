-- Epochs that come one after the other, and the one run that they are.
use Rattle.std.specs.Prelude.{ℕ, List, [], ◌∷◌, ◌++◌, map, ⊤}
use Rattle.std.specs.List.{All}
use Rattle.cmh_epochs3.specs.Laws.{IsRunFrom}
use Rattle.cmh_model3.specs.Entries.{Entry, WorldEvent}
use Rattle.cmh_model3.specs.Runs.{entries_of}
use Rattle.cmh_runs.specs.Runs.{ComesFrom}
use Rattle.cmh_topology3.specs.Topology.{Topology, site_of, sites_of}
use Rattle.cmh_segment3.specs.Base.{IsBase}
use Rattle.cmh_segment3.specs.Entries.{step_of}
use Rattle.cmh_segment3.specs.declared.segment.Segment.{Segment}
use Rattle.cmh_audit3.specs.Journals.{journal_of}
use Rattle.cmh_history3.specs.EpochSet.{IsEpochSet}
use Rattle.cmh_history3.specs.Turns.{turns_of}
use Rattle.cmh_history3.specs.Worlds.{world_of}

-- The segments of one epoch, whose bases are such as can be read.
pub record IsReadEpoch (t : Topology) (segments : List Segment) : Type 0 where
  pub set : IsEpochSet t segments
  pub bases : All (λ (g : Segment). IsBase g.base) segments

-- the epoch of segments; 0 where there are none
abbrev pub epoch_of : List Segment → ℕ
epoch_of [] = 0
epoch_of (g ∷ segments) = g.header.epoch

-- each site turns to the epoch of these segments
abbrev pub turns_to : Topology → List Segment → List WorldEvent
turns_to t next = turns_of (epoch_of next) (sites_of t)

-- the steps of a site in an epoch and in those after it, with its turn to each of them
abbrev pub steps_in : Topology → List Segment → List (List Segment) → ℕ → List Entry
steps_in t segments [] s = map step_of (journal_of segments s)
steps_in t segments (next ∷ more) s =
    map step_of (journal_of segments s) ++ (entries_of s (turns_to t next) ++ steps_in t next more s)

-- From the bases of the first epoch there is one run, in which each site takes just its steps of all epochs.
pub record ComeFromOneRun (t : Topology) (first : List Segment) (more : List (List Segment)) : Type 0 where
  pub events : List WorldEvent
  pub run : IsRunFrom (site_of t) (world_of t first) events
  pub comes : ComesFrom (steps_in t first more) events

abbrev pub AreOneRun : Topology → List (List Segment) → Type 0
AreOneRun t [] = ⊤
AreOneRun t (first ∷ more) = ComeFromOneRun t first more

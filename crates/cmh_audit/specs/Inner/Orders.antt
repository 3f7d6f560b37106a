-- The order in which a merge took entries.
use Rattle.std.specs.Prelude.{◌≡◌, ℕ, ◌==◌, List, [], ◌∷◌, ◌++◌, map, slice_index_or, Some}
use Rattle.cmh_frames.specs.Laws.{count_of}
use Rattle.cmh_frames.specs.Topology.{Topology}
use Rattle.cmh_frames.specs.Entries.{WorldEvent}
use Rattle.cmh_frames.specs.Runs.{ComesFrom, IsBeginningOf, IsRun}
use Rattle.cmh_journal.specs.Journal.{Journal}
use Rattle.cmh_audit.specs.Runs.{event_at}
use Rattle.cmh_audit.specs.Inner.Merging.{taken_of}
use Rattle.cmh_audit.specs.declared.step.Step.{Step}

-- how many of the steps take an entry of the journal at this place
abbrev pub steps_of : ℕ → List Step → ℕ
steps_of journal steps = count_of (λ (step : Step). step.journal == journal) steps

-- each step takes the entry of its journal after those that the steps before it took
abbrev pub AreInTurn : List Step → Type 0
AreInTurn steps =
    (before : List Step) (step : Step) → IsBeginningOf (before ++ step ∷ []) steps
    → step.entry ≡ steps_of step.journal before

-- Taken in this order, the entries that were taken of each journal are a run.
pub record IsOrder (t : Topology) (journals : List Journal) (counts : List ℕ) (steps : List Step) : Type 0 where
  pub events : List WorldEvent
  pub are : map (event_at journals) steps ≡ map Some events
  pub in_turn : AreInTurn steps
  pub run : IsRun t events
  pub come : ComesFrom (taken_of journals counts) events
  pub counted : (k : ℕ) → steps_of k steps ≡ slice_index_or counts k 0

-- Runs that are split at a stop: how many entries of each site come before it.
use Rattle.std.specs.Prelude.{ℕ, ◌≤◌, List, length, take, drop}
use Rattle.cmh_model3.specs.Entries.{Entry, WorldEvent}
use Rattle.cmh_model3.specs.Journals.{receipts_of, sendings_of}
use Rattle.cmh_model3.specs.Runs.{IsRun}
use Rattle.cmh_model3.specs.Stops.{stopped}
use Rattle.cmh_runs.specs.Runs.{ComesFrom, entries_of}
use Rattle.cmh_epochs3.specs.Laws.{IsRunFrom, LeadsTo, World, first_world}

-- what the journals, given by site number, have before the stop, and past it
abbrev pub before_stop : (ℕ → ℕ) → (ℕ → List Entry) → ℕ → List Entry
before_stop stop journals s = take (stop s) (journals s)

abbrev pub past_stop : (ℕ → ℕ) → (ℕ → List Entry) → ℕ → List Entry
past_stop stop journals s = drop (stop s) (journals s)

-- nothing was got before the stop that was not sent before it
abbrev pub IsConsistent : (ℕ → ℕ) → (ℕ → List Entry) → Type 0
IsConsistent stop journals = (a b : ℕ)
    → length (receipts_of a (before_stop stop journals b)) ≤ length (sendings_of b (before_stop stop journals a))

-- the journals come from a run
pub record ComeFromRun (home : ℕ → ℕ) (journals : ℕ → List Entry) : Type 0 where
  pub events : List WorldEvent
  pub run : IsRun home events
  pub comes : ComesFrom journals events

-- What they have before the stop comes from a run that leads to bases, and what they have past it from a run from there.
pub record ComeInParts (home : ℕ → ℕ) (stop : ℕ → ℕ) (journals : ℕ → List Entry) : Type 0 where
  pub before : ComeFromRun home (before_stop stop journals)
  pub base : World
  pub leads : LeadsTo home (first_world home) before.events base
  pub past : List WorldEvent
  pub goes_on : IsRunFrom home base past
  pub comes : ComesFrom (past_stop stop journals) past

-- journals that a stop splits consistently come from a run exactly where their parts do
pub record IsExactly (home : ℕ → ℕ) (stop : ℕ → ℕ) (journals : ℕ → List Entry) : Type 0 where
  pub splits : ComeFromRun home journals → ComeInParts home stop journals
  pub joins : ComeInParts home stop journals → ComeFromRun home journals

abbrev pub ExactlyTheWhole : Type 0
ExactlyTheWhole = (home : ℕ → ℕ) (stop : ℕ → ℕ) (journals : ℕ → List Entry) → IsConsistent stop journals
    → IsExactly home stop journals

-- a stop by stamp is a consistent stop; so it is a place at which all sites can begin an epoch
abbrev pub StopsByStampSplit : Type 0
StopsByStampSplit = (home : ℕ → ℕ) (events : List WorldEvent) → IsRun home events → (n : ℕ)
    → IsConsistent (λ s. length (stopped n events s)) (λ s. entries_of s events)

-- A run as the places of its entries in the journals: what a reader can check without the auditor.
use Rattle.std.specs.Prelude.{◌≡◌, ℕ, ◌==◌, List, [], ◌∷◌, ◌++◌, map, slice_get, option_map, option_and_then, Option, Some}
use Rattle.cmh_frames.specs.Topology.{Topology}
use Rattle.cmh_frames.specs.Entries.{Entry, WorldEvent}
use Rattle.cmh_frames.specs.Laws.{count_of}
use Rattle.cmh_frames.specs.Runs.{ComesFrom, IsBeginningOf, IsRun}
use Rattle.cmh_journal.specs.Journal.{Journal}
use Rattle.cmh_audit.specs.Journals.{journal_of}
use Rattle.cmh_audit.specs.declared.step.Step.{Step}

-- the entry at a place, and the site of its journal; none where nothing stands there
abbrev pub event_at : List Journal → Step → Option WorldEvent
event_at journals step = option_and_then
    (λ (j : Journal). option_map (λ (e : Entry). record { site = j.site; entry = e }) (slice_get j.entries step.entry))
    (slice_get journals step.journal)

-- The entries at these places, in this order, are a run from which the journals come; so each entry is taken, once. Each
-- step takes the entry of its journal after those that the steps before it took.
pub record IsRunOf (t : Topology) (journals : List Journal) (steps : List Step) : Type 0 where
  pub events : List WorldEvent
  pub are : map (event_at journals) steps ≡ map Some events
  pub in_turn : (before : List Step) (step : Step) → IsBeginningOf (before ++ step ∷ []) steps
      → step.entry ≡ count_of (λ (earlier : Step). earlier.journal == step.journal) before
  pub run : IsRun t events
  pub come : ComesFrom (journal_of journals) events

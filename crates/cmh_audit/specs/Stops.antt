-- Where a merge stopped.
use Rattle.std.specs.Prelude.{ℕ, ◌-◌, ◌<◌, ◌≤◌, ◌==◌, List, [], ◌∷◌, length, map, take, All, if◌then◌else◌}
use Rattle.std.specs.List.Sorted.{IsStrictlyIncreasing}
use Rattle.cmh_frames.specs.Topology.{Topology}
use Rattle.cmh_frames.specs.Entries.{Entry, WorldEvent}
use Rattle.cmh_frames.specs.Runs.{IsBeginningOf, IsRun, ComeFromRun, entries_of}
use Rattle.cmh_journal.specs.Journal.{Journal}
use Rattle.cmh_audit.specs.Journals.{journal_of}

-- each unfinished site with the number, from 1, of its entry that couldn't be taken
pub record Stops : Type 0 where
  pub rows : List (ℕ × ℕ)
  pub tries : ℕ

-- the entries of a site before its stop; all where it has none
abbrev pub before_stop : List (ℕ × ℕ) → ℕ → List Entry → List Entry
before_stop [] site entries = entries
before_stop (stop ∷ stops) site entries =
    if stop.0 == site then take (stop.1 - 1) entries else before_stop stops site entries

-- the stops of a set of journals: what stands before them comes from a run, and no run
-- of beginnings of the journals has more
pub record AreStops (t : Topology) (journals : List Journal) (stops : List (ℕ × ℕ)) : Type 0 where
  pub some : 0 < length stops
  pub ascending : IsStrictlyIncreasing (map (λ stop. stop.0) stops)
  pub unfinished : All (λ stop. (1 ≤ stop.1) × (stop.1 ≤ length (journal_of journals stop.0))) stops
  pub comes : ComeFromRun t (λ site. before_stop stops site (journal_of journals site))
  pub most : (events : List WorldEvent) → IsRun t events
      → ((site : ℕ) → IsBeginningOf (entries_of site events) (journal_of journals site))
      → (site : ℕ) → length (entries_of site events) ≤ length (before_stop stops site (journal_of journals site))

-- Stops: how far each site had got when it, or its disk, stopped.
use Rattle.std.specs.Prelude.{ℕ, ◌≤◌, List, length, take}
use Rattle.cmh_runs.specs.declared.entry.Entry.{Entry}
use Rattle.cmh_runs.specs.declared.entry.WorldEvent.{WorldEvent}
use Rattle.cmh_runs.specs.Journals.{sendings_of, receipts_of}
use Rattle.cmh_runs.specs.Runs.{entries_of}

module _ {Event Frame : Type 0} where
  -- the first entries of a site, as many as the stop gives it, or all where it has fewer
  abbrev pub stopped : (ℕ → ℕ) → List (WorldEvent Event Frame) → ℕ → List (Entry Event Frame)
  stopped stop events s = take (stop s) (entries_of s events)

  -- nothing was got within the stop that was not sent within it
  abbrev pub IsConsistent : (ℕ → Event → List Frame) → (ℕ → ℕ) → List (WorldEvent Event Frame) → Type 0
  IsConsistent got stop events =
      (a b : ℕ) → length (receipts_of got a (stopped stop events b)) ≤ length (sendings_of b (stopped stop events a))

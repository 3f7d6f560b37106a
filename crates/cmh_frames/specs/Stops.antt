-- Stops: how far each site had got when it, or its disk, stopped.
use Rattle.std.specs.Prelude.{ℕ, List}
use Rattle.cmh_runs.specs.Stops as runs
use Rattle.cmh_frames.specs.Entries.{WorldEvent}
use Rattle.cmh_frames.specs.Journals.{frame_from}
pub use Rattle.cmh_runs.specs.Stops.{stopped}

-- nothing was got within the stop that was not sent within it
abbrev pub IsConsistent : (ℕ → ℕ) → List WorldEvent → Type 0
IsConsistent = runs.IsConsistent frame_from

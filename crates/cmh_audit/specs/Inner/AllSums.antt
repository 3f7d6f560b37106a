-- Sums over the events of a run.
use Rattle.std.specs.Prelude.{ℕ, ◌+◌, List, [], ◌∷◌}
use Rattle.cmh_frames.specs.Entries.{Entry, WorldEvent}

abbrev pub in_run : (Entry → ℕ) → List WorldEvent → ℕ
in_run f [] = 0
in_run f (e ∷ events) = f e.entry + in_run f events

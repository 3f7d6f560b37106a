-- Cycles of waits in a list of askers with their holders, as the search finds them.
use Rattle.std.specs.Prelude.{ℕ, List, Contains}
use Rattle.cmh_frames.specs.Paths.{IsCycleOf}

-- j waits for k
abbrev pub WaitsIn : List (ℕ × ℕ) → ℕ → ℕ → Type 0
WaitsIn waits j k = Contains waits (j, k)

-- a cycle of these waits through i
abbrev pub IsCycleIn : List (ℕ × ℕ) → ℕ → List ℕ → Type 0
IsCycleIn waits i members = IsCycleOf (λ j k. WaitsIn waits j k) i members

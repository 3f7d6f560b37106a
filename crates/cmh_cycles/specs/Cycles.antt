-- The first cycle through a process.
use Rattle.std.specs.Prelude.{◌≡◌, ℕ, ◌<◌, ◌⊎◌, true, List, length}
use Rattle.std.specs.Ordering.{is_le, nat_cmp}
use Rattle.std.specs.Cmp.Lexicographic.{slice_cmp}
use Rattle.cmh_frames.specs.Paths.{IsCycleOf}

-- shorter, or as long and number by number the same or less
abbrev pub ComesFirst : List ℕ → List ℕ → Type 0
ComesFirst xs ys = (length xs < length ys) ⊎ ((length xs ≡ length ys) × (is_le (slice_cmp nat_cmp xs ys) ≡ true))

-- a shortest cycle through i, and of those the least by comparing them number by number
pub record IsFirstCycleOf (R : ℕ → ℕ → Type 0) (i : ℕ) (members : List ℕ) : Type 0 where
  pub cycle : IsCycleOf R i members
  pub first : (other : List ℕ) → IsCycleOf R i other → ComesFirst members other

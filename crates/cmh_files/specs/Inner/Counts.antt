-- Counts by site numbers: where a list ends before the number, nothing was counted.
use Rattle.std.specs.Prelude.{◌≡◌, ℕ, ◌==◌, List, if◌then◌else◌, slice_index_or}

abbrev pub count_at : List ℕ → ℕ → ℕ
count_at counts s = slice_index_or counts s 0

-- one at its own site, and nothing at others
abbrev pub one_at : ℕ → ℕ → ℕ
one_at site s = if site == s then 1 else 0

-- each count is as it was
abbrev pub SameCounts : List ℕ → List ℕ → Type 0
SameCounts old new = (s : ℕ) → count_at new s ≡ count_at old s

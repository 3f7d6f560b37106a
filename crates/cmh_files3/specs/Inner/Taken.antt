-- How many entries of each site were taken, at the site's number: where the list ends before it, none.
use Rattle.std.specs.Prelude.{◌≡◌, ℕ, ◌==◌, List, slice_index_or}
use Rattle.cmh_frames.specs.Laws.{bit}

abbrev pub taken_at : List ℕ → ℕ → ℕ
taken_at counts s = slice_index_or counts s 0

-- one at its own site, and nothing at others
abbrev pub one_at : ℕ → ℕ → ℕ
one_at site s = bit (site == s)

-- each count is as it was
abbrev pub SameTaken : List ℕ → List ℕ → Type 0
SameTaken old new = (s : ℕ) → taken_at new s ≡ taken_at old s

-- Sums over entries.
use Rattle.std.specs.Prelude.{ℕ, ◌+◌, List, [], ◌∷◌}
use Rattle.cmh_frames.specs.Entries.{Entry}
use Rattle.cmh_journal.specs.Journal.{Journal}

-- the sum of what each entry counts
abbrev pub in_entries : (Entry → ℕ) → List Entry → ℕ
in_entries f [] = 0
in_entries f (e ∷ entries) = f e + in_entries f entries

-- over the entries of all journals
abbrev pub in_journals : (Entry → ℕ) → List Journal → ℕ
in_journals f [] = 0
in_journals f (j ∷ journals) = in_entries f j.entries + in_journals f journals

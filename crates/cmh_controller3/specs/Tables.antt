-- Tables: what is kept of processes, each at its number.
use Rattle.std.specs.Prelude.{ℕ, ◌==◌, Bool, false, if◌then◌else◌, List, [], ◌∷◌, slice_index_or}
use Rattle.cmh_model3.specs.Lists.{in_list}
use Rattle.cmh_controller3.specs.declared.mark_row.Mark.{Mark}

-- whether the row of a has b
abbrev pub pairs_of : List (List ℕ) → ℕ → ℕ → Bool
pairs_of rows a b = in_list (slice_index_or rows a []) b

-- the stamp of the mark of i, and 0 where there is none
abbrev pub stamp_in : List Mark → ℕ → ℕ
stamp_in [] i = 0
stamp_in (m ∷ ms) i = if m.origin == i then m.stamp else stamp_in ms i

-- that in the row of k
abbrev pub marks_of : List (List Mark) → ℕ → ℕ → ℕ
marks_of rows k i = stamp_in (slice_index_or rows k []) i

abbrev pub flags_of : List Bool → ℕ → Bool
flags_of flags p = slice_index_or flags p false

abbrev pub stamps_of : List ℕ → ℕ → ℕ
stamps_of stamps p = slice_index_or stamps p 0

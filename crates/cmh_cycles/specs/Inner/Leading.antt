-- Of places with one row, that which is looked at.
use Rattle.std.specs.Prelude.{ℕ, ◌==◌, ◌||◌, not, Bool, List, slice_index}
use Rattle.cmh_bits.specs.Bits.{has_number}

-- whether the twin of the place is the place itself, or is not in the row
abbrev pub leads : List ℕ → List ℕ → ℕ → Bool
leads row twins k = (slice_index twins k == k) || not (has_number row (slice_index twins k))

-- Numbers as bits: the bit k % 64 of the word k / 64 stands for the number k.
use Rattle.std.specs.Prelude.{ℕ, ◌/◌, ◌%◌, ◌==◌, Bool, List, slice_index_or}
use Rattle.std.specs.Int.{bit_at}

-- whether the word has a 1 at the place
abbrev pub is_set : ℕ → ℕ → Bool
is_set n k = bit_at n k == 1

-- whether the words have a 1 for the number
abbrev pub has_number : List ℕ → ℕ → Bool
has_number words k = is_set (slice_index_or words (k / 64) 0) (k % 64)

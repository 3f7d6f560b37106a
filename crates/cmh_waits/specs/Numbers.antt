-- Words of bits: the bit k % 64 of the word k / 64 stands for the number k.
use Rattle.std.specs.Prelude.{◌≡◌, ℕ, ◌*◌, ◌≤◌, true, List, filter, length}
use Rattle.std.specs.List.{range_with_len}
use Rattle.cmh_bits.specs.Bits.{has_number}
use Rattle.cmh_frames.specs.Number.{IsNumber}

-- the numbers with a 1, ascending
abbrev pub numbers_in : List ℕ → List ℕ
numbers_in words = filter (has_number words) (range_with_len 0 (length words * 64))

-- each number with a 1 is a process's, and there are no more words than for those
pub record AreNumbers (words : List ℕ) : Type 0 where
  pub short : length words ≤ 157
  pub numbers : (k : ℕ) → has_number words k ≡ true → IsNumber k

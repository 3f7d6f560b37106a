use Rattle.std.proofs.Common.{◌≡◌, ℕ, ◌<◌, get_or}
use Rattle.std.specs.Int.Bits.{bit_and}
use Rattle.cmh_bits.proofs.bit_set.BitSet.first_common.Given as goal

-- no word before has a common bit
abbrev pub invariant-loop-at : goal.invariant-loop-at
invariant-loop-at l = (q : ℕ) → q < l.at → bit_and (get_or l.self-inside.words.items q 0) (get_or l.other-inside.words.items q 0) ≡ 0

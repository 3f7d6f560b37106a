use Rattle.std.proofs.Common.{◌≡◌, ◌*◌}
use Rattle.std.specs.List.{filter, range_with_len}
use Rattle.cmh_bits.specs.Bits.{has_number}
use Rattle.cmh_waits.proofs.proc_bits.ProcBits.to_vec.Given as goal

-- the processes of the words so far
abbrev pub invariant-loop-at : goal.invariant-loop-at
invariant-loop-at l = l.list.items ≡ filter (has_number l.self-inside.words.items) (range_with_len 0 (l.at * 64))

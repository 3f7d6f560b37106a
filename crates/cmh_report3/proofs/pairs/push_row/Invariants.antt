use Rattle.std.proofs.Common.{◌≡◌, ◌++◌, map, take}
use Rattle.cmh_report3.proofs.pairs.push_row.Given as goal

abbrev pub invariant-loop-second : goal.invariant-loop-second
invariant-loop-second l = l.pairs.items ≡ l.fn.pairs.items ++ map (λ k. (l.first, k)) (take l.second-index l.row)

use Rattle.std.proofs.Common.{◌≡◌, ◌++◌, map, take}
use Rattle.cmh_audit.proofs.open_waits.push_row.Given as goal

abbrev pub invariant-loop-holder : goal.invariant-loop-holder
invariant-loop-holder l = l.pairs.items ≡ l.fn.pairs.items ++ map (λ k. (l.asker, k)) (take l.holder-index l.holders)

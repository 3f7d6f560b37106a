use Rattle.cmh_cycles.proofs.RowLemmas.{IsAdding}
use Rattle.cmh_cycles.proofs.unions.add_some.Given as goal

abbrev pub invariant-loop-left : goal.invariant-loop-left
invariant-loop-left l = IsAdding l.table l.start l.word l.fn.union l.union l.left

abbrev pub decreases-loop-left : goal.decreases-loop-left
decreases-loop-left l = l.left

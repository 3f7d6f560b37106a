use Rattle.cmh_cycles.proofs.RowLemmas.{IsLeading}
use Rattle.cmh_cycles.proofs.unions.leading.Given as goal

abbrev pub invariant-loop-left : goal.invariant-loop-left
invariant-loop-left l = IsLeading l.row l.twins l.start l.word l.leading l.left

abbrev pub decreases-loop-left : goal.decreases-loop-left
decreases-loop-left l = l.left

use Rattle.cmh_waits.proofs.NumberLemmas.{IsPushing}
use Rattle.cmh_waits.proofs.proc_bits.push_word.Given as goal

abbrev pub invariant-loop-left : goal.invariant-loop-left
invariant-loop-left l = IsPushing l.start l.word l.left l.fn.list.items l.list.items

abbrev pub decreases-loop-left : goal.decreases-loop-left
decreases-loop-left l = l.left

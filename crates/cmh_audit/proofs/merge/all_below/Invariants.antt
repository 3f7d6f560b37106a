use Rattle.cmh_audit.specs.Inner.Ready.{ArePlaces}
use Rattle.cmh_audit.proofs.merge.all_below.Given as goal

abbrev pub invariant-loop-k : goal.invariant-loop-k
invariant-loop-k l = ArePlaces l.all.items l.k

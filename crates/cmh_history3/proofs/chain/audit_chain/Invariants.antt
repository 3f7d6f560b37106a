use Rattle.std.specs.Vec.Iter.{into_iter_items, into_iter_len}
use Rattle.cmh_history3.proofs.Ending.{AreJudged}
use Rattle.cmh_history3.proofs.chain.audit_chain.Given as goal

abbrev pub invariant-loop-place : goal.invariant-loop-place
invariant-loop-place g l = AreJudged l.topology l.epochs l.more l.place (into_iter_items l.ends) (into_iter_len l.ends)

use Rattle.std.proofs.Common.{refl, subst, take_all}
use Rattle.std.specs.List.{All}
use Rattle.std.proofs.lemmas.List.Elements.{All-more}
use Rattle.cmh_restore3.specs.Restored.{StandsFor}
use Rattle.cmh_restore3.proofs.checks.have_begun.Goals as goal

pub loop-head-preserved : goal.loop-head-preserved
loop-head-preserved c =
    let at = StandsFor c.args.epoch in
    All-more at c.args.heads.now c.loop-head.head-index c.head-item.result c.loop-head-test.true c.loop-head.invariant (subst at c.head-item.is (c.stands_for.ensures.0 c.if-not-stands_for.false))

pub returns : goal.returns
returns c = (
  (λ yes. subst (All (StandsFor c.args.epoch)) (take_all c.loop-head.head-index c.args.heads.now c.loop-head-test.false) c.loop-head.invariant),
  (λ all. refl),
)

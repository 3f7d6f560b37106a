use Rattle.std.proofs.Common.{subst, refl, take_all}
use Rattle.std.specs.List.{All}
use Rattle.std.proofs.lemmas.List.Elements.{All-more}
use Rattle.cmh_history3.specs.Between.{Agrees}
use Rattle.cmh_history3.proofs.between.disagreement_from.Goals as goal

pub loop-to-preserved : goal.loop-to-preserved
loop-to-preserved c =
    let at = Agrees c.args.segments.now c.args.from in
    All-more at c.args.sites.now c.loop-to.to-index c.to-item.result c.loop-to-test.true c.loop-to.invariant (subst at c.to-item.is (c.if-not-agrees.ensures.0 refl))

pub returns : goal.returns
returns c = subst (All (Agrees c.args.segments.now c.args.from)) (take_all c.loop-to.to-index c.args.sites.now c.loop-to-test.false) c.loop-to.invariant

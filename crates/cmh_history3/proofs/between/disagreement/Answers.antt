use Rattle.std.proofs.Common.{ℕ, subst, take_all}
use Rattle.std.specs.List.{All}
use Rattle.std.proofs.lemmas.List.Elements.{All-more}
use Rattle.cmh_history3.specs.Between.{Agrees}
use Rattle.cmh_history3.proofs.between.disagreement.Goals as goal

pub loop-from-preserved : goal.loop-from-preserved
loop-from-preserved c =
    let at : ℕ → Type 0 = λ a. All (Agrees c.args.segments.now a) c.args.sites.now in
    All-more at c.args.sites.now c.loop-from.from-index c.from-item.result c.loop-from-test.true c.loop-from.invariant (subst at c.from-item.is c.in_default.ensures)

pub returns : goal.returns
returns c =
    subst (All (λ a. All (Agrees c.args.segments.now a) c.args.sites.now)) (take_all c.loop-from.from-index c.args.sites.now c.loop-from-test.false) c.loop-from.invariant

use Rattle.std.proofs.Common.{refl, subst, take_all}
use Rattle.std.specs.List.{All}
use Rattle.std.proofs.lemmas.List.Elements.{All-more}
use Rattle.cmh_history3.specs.Epochs.{IsClosed}
use Rattle.cmh_history3.proofs.epochs.have_closed.Goals as goal

pub loop-journal-preserved : goal.loop-journal-preserved
loop-journal-preserved c =
    let at = IsClosed c.args.epoch in
    All-more at c.args.journals.now c.loop-journal.journal-index c.journal-item.result c.loop-journal-test.true c.loop-journal.invariant
    (subst at c.journal-item.is (c.has_closed.ensures.0 c.if-not-has_closed.false))

pub returns : goal.returns
returns c = (
  (λ yes. subst (All (IsClosed c.args.epoch)) (take_all c.loop-journal.journal-index c.args.journals.now c.loop-journal-test.false) c.loop-journal.invariant),
  (λ all. refl),
)

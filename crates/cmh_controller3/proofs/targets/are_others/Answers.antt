use Rattle.std.proofs.Common.{◌≡◌, ◌∙◌, true, sym, true≢false}
use Rattle.std.proofs.lemmas.List.{get_or_default}
use Rattle.cmh_model3.specs.Lists.{in_list}
use Rattle.cmh_waits3.proofs.Lists.{at_in}
use Rattle.cmh_controller3.proofs.Naming.{is_same}
use Rattle.cmh_controller3.proofs.targets.are_others.Goals as goal
use Rattle.cmh_controller3.proofs.targets.are_others.Goals.{then-eq-via-then-eq, then-eq-via-else-eq+then-not-is_known}

pub returns-then-eq : goal.returns-then-eq
returns-then-eq c =
    let ks = c.args.targets.now in
    let k = c.target-item.result in
    let member : in_list ks k ≡ true = at_in ks c.loop-target.target-index k c.loop-target-test.true (sym (c.target-item.is ∙ get_or_default ks c.loop-target.target-index k 0 c.loop-target-test.true)) in (
      λ e. absurd (true≢false (sym e)),
      λ others. absurd (elim c.then-eq.branch [
        | then-eq-via-then-eq w ↦ (others.1 k member).0 (is_same c.eq.result k c.args.asker c.eq.ensures w.if-eq.true)
        | then-eq-via-else-eq+then-not-is_known w ↦ true≢false (sym (w.is_known.ensures.1 (others.1 k member).1) ∙ w.if-not-is_known.true)
      ]),
    )

use Rattle.std.proofs.Common.{◌≡◌, ◌∙◌, ◌||◌, ◌==◌, ℕ, true, List, take, sym, ap, subst, inl, inr}
use Rattle.std.proofs.lemmas.Bool.{eqb-true, or_cases}
use Rattle.std.proofs.lemmas.List.Folds.{list_any_more}
use Rattle.cmh_model3.specs.Lists.{in_list}
use Rattle.cmh_waits3.proofs.Counted.{take_past}
use Rattle.cmh_waits3.proofs.Lists.{at_in}
use Rattle.cmh_waits3.proofs.summary.is_any_away.Goals as goal

pub loop-process-preserved : goal.loop-process-preserved
loop-process-preserved c = λ k h.
    let ms = c.args.members.now in
    let ks = c.args.processes.now in
    let x = c.process-item.result in
    let i = c.loop-process.process-index in
    elim (or_cases (in_list (take i ks) k) (x == k) (sym (list_any_more (λ y. y == k) ks i x c.loop-process-test.true ∙ ap (λ y. in_list (take i ks) k || (y == k)) (sym c.process-item.is)) ∙ h)) [
      | inl before ↦ c.loop-process.invariant k before
      | inr same ↦ subst (λ q. in_list ms q ≡ true) (eqb-true x k same) (at_in ms c.in-Some.field-0 x c.in-Some.ensures.0 c.in-Some.ensures.1)
    ]

pub returns : goal.returns
returns c = λ f k h. c.loop-process.invariant k (ap (λ (ks : List ℕ). in_list ks k) (take_past c.args.processes.now c.loop-process.process-index c.loop-process-test.false) ∙ h)

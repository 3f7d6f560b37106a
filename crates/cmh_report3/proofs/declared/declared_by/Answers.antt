use Rattle.std.proofs.Common.{ℕ, List, ◌∙◌, ◌||◌, ap, sym, take}
use Rattle.std.specs.List.{list_any}
use Rattle.cmh_controller3.specs.Controller.{Controller, state_of}
use Rattle.cmh_model3.specs.Lists.{in_list}
use Rattle.cmh_report3.proofs.Steps.{any_more, or_swap}
use Rattle.cmh_report3.proofs.declared.declared_by.Goals as goal

pub loop-controller-preserved : goal.loop-controller-preserved
loop-controller-preserved c = λ p.
    let f = λ (d : Controller). (state_of d).declared p in
    let cs = c.args.controllers.now in
    let i = c.loop-controller.controller-index in
    let d = c.controller-item.result in
    c.in_ok-insert_all.ensures p
    ∙ ap (λ b. b || in_list c.loop-controller.declared p) (ap (λ (xs : List ℕ). in_list xs p) c.deref.ensures.value ∙ c.in_ok-declared.ensures.all p)
    ∙ ap (λ b. f d || b) (c.loop-controller.invariant p) ∙ or_swap (f d) (list_any f (take i cs))
    ∙ sym (any_more cs i d c.loop-controller-test.true c.controller-item.is f)

use Rattle.std.proofs.Common.{◌∙◌, refl, sym, subst}
use Rattle.cmh_controller3.specs.Controller.{Controller, home_of, state_of}
use Rattle.cmh_controller3.specs.Refusals.{AreOthers}
use Rattle.cmh_controller3.proofs.Naming.{some_named}
use Rattle.cmh_controller3.proofs.Refusing.{withdraw_accepted}
use Rattle.cmh_controller3.proofs.controller.Controller.check_withdraw.Goals as goal

pub returns : goal.returns
returns c =
    let now = c.args.self.now in
    let others = subst (λ (v : Controller). AreOthers (home_of v) c.args.asker c.args.targets.now) c.self.view_is (c.if-not-are_others.ensures.0 refl) in
    withdraw_accepted (home_of now) now.site (state_of now) c.args.asker c.args.targets.now c.in_ok-check_here.ensures others
    (some_named c.args.targets.now (sym c.is_empty.ensures ∙ c.if-is_empty.false)) (sym c.waits_not_for_any.ensures ∙ c.if-waits_not_for_any.false)

use Rattle.std.proofs.Common.{subst}
use Rattle.cmh_model3.specs.declared.event.Event.{Event}
use Rattle.cmh_controller3.specs.Inner.Between.{StandsBetween}
use Rattle.cmh_controller3.proofs.controller.Controller.give_up.Goals as goal

pub returns-in-Withdraw : goal.returns-in-Withdraw
returns-in-Withdraw c = λ old stands.
    c.forget_withdraw.ensures old _ c.args.declared (subst (λ (e : Event). StandsBetween old e c.args.before c.args.declared c.args.self.now) c.in-Withdraw.is stands)

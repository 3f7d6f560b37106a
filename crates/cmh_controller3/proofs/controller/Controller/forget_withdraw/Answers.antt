use Rattle.std.proofs.Common.{sym, subst}
use Rattle.cmh_model3.specs.declared.event.Event.TheVariants.{Withdraw}
use Rattle.cmh_controller3.specs.Controller.{Controller}
use Rattle.cmh_controller3.specs.Inner.Between.{StandsBetween}
use Rattle.cmh_controller3.specs.contracts.controller.Controller.{the_view}
use Rattle.cmh_controller3.proofs.TakenBack.{withdraw_back}
use Rattle.cmh_controller3.proofs.controller.Controller.forget_withdraw.Goals as goal

pub invariant_of-self : goal.invariant_of-self
invariant_of-self c =
    let mid = the_view c.self.inside in
    let r = c.requires in
    let stands = subst (λ (v : Controller). StandsBetween r.0 (Withdraw c.args.asker r.1) c.args.before r.2 v) (sym c.self.view_is) r.3 in
    (withdraw_back r.0 mid c.self.invariant c.args.before r.2 c.args.asker r.1 c.put_row.new.self stands c.put_row.ensures.pairs c.put_row.ensures.room).kept

pub returns : goal.returns
returns c = λ old targets d given.
    let mid = the_view c.self.inside in
    let stands = subst (λ (v : Controller). StandsBetween old (Withdraw c.args.asker targets) c.args.before d v) (sym c.self.view_is) given in
    (withdraw_back old mid c.self.invariant c.args.before d c.args.asker targets c.put_row.new.self stands c.put_row.ensures.pairs c.put_row.ensures.room).back

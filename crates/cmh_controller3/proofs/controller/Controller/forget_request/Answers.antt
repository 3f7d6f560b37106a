use Rattle.std.proofs.Common.{sym, subst}
use Rattle.cmh_model3.specs.declared.event.Event.TheVariants.{Got}
use Rattle.cmh_model3.specs.declared.frame.Frame.TheVariants.{Request}
use Rattle.cmh_controller3.specs.Controller.{Controller}
use Rattle.cmh_controller3.specs.Inner.Between.{StandsBetween}
use Rattle.cmh_controller3.specs.contracts.controller.Controller.{the_view}
use Rattle.cmh_controller3.proofs.TakenBack.{request_back}
use Rattle.cmh_controller3.proofs.controller.Controller.forget_request.Goals as goal

pub invariant_of-self : goal.invariant_of-self
invariant_of-self c =
    let mid = the_view c.self.inside in
    let r = c.requires in
    let stands = subst (λ (v : Controller). StandsBetween r.0 (Got r.1 r.2 (Request c.args.asker c.args.holder)) c.args.before.now r.3 v) (sym c.self.view_is) r.4 in
    (request_back r.0 mid c.self.invariant c.args.before.now r.3 r.1 r.2 c.args.asker c.args.holder c.remove.new.self stands c.remove.ensures.pairs c.remove.ensures.room).kept

pub returns : goal.returns
returns c = λ old a n d given.
    let mid = the_view c.self.inside in
    let stands = subst (λ (v : Controller). StandsBetween old (Got a n (Request c.args.asker c.args.holder)) c.args.before.now d v) (sym c.self.view_is) given in
    (request_back old mid c.self.invariant c.args.before.now d a n c.args.asker c.args.holder c.remove.new.self stands c.remove.ensures.pairs c.remove.ensures.room).back

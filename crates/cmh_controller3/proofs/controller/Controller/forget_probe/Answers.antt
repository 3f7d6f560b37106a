use Rattle.std.proofs.Common.{sym, subst}
use Rattle.cmh_model3.specs.declared.event.Event.TheVariants.{Got}
use Rattle.cmh_model3.specs.declared.frame.Frame.TheVariants.{Probe}
use Rattle.cmh_controller3.specs.Controller.{Controller}
use Rattle.cmh_controller3.specs.Inner.Between.{StandsBetween}
use Rattle.cmh_controller3.specs.contracts.controller.Controller.{the_view}
use Rattle.cmh_controller3.proofs.TakenBack.{mark_there, probe_back}
use Rattle.cmh_controller3.proofs.controller.Controller.forget_probe.Goals as goal

pub put_back-requires-clause-some : goal.put_back-requires-clause-some
put_back-requires-clause-some c =
    let mid = the_view c.self.inside in
    let r = c.requires in
    let stands = subst (λ (v : Controller). StandsBetween r.0 (Got r.1 r.2 (Probe c.args.origin r.3 r.4 c.args.at)) c.args.before.now c.args.declared v) (sym c.self.view_is) r.5 in
    mark_there r.0 mid c.self.invariant c.args.before.now c.args.declared r.1 r.2 c.args.origin r.3 r.4 c.args.at stands

pub invariant_of-self : goal.invariant_of-self
invariant_of-self c =
    let mid = the_view c.self.inside in
    let r = c.requires in
    let stands = subst (λ (v : Controller). StandsBetween r.0 (Got r.1 r.2 (Probe c.args.origin r.3 r.4 c.args.at)) c.args.before.now c.args.declared v) (sym c.self.view_is) r.5 in
    (probe_back r.0 mid c.self.invariant c.args.before.now c.args.declared r.1 r.2 c.args.origin r.3 r.4 c.args.at c.put_back.new.self c.undeclare.new.declared.items stands c.put_back.ensures.marks c.put_back.ensures.room c.undeclare.ensures.none c.undeclare.ensures.some c.undeclare.ensures.length).kept

pub returns : goal.returns
returns c = λ old a n m j given.
    let mid = the_view c.self.inside in
    let stands = subst (λ (v : Controller). StandsBetween old (Got a n (Probe c.args.origin m j c.args.at)) c.args.before.now c.args.declared v) (sym c.self.view_is) given in
    (probe_back old mid c.self.invariant c.args.before.now c.args.declared a n c.args.origin m j c.args.at c.put_back.new.self c.undeclare.new.declared.items stands c.put_back.ensures.marks c.put_back.ensures.room c.undeclare.ensures.none c.undeclare.ensures.some c.undeclare.ensures.length).back

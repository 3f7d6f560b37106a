use Rattle.std.proofs.Common.{subst}
use Rattle.cmh_model3.specs.declared.event.Event.TheVariants.{Got}
use Rattle.cmh_model3.specs.declared.frame.Frame.{Frame}
use Rattle.cmh_controller3.specs.Inner.Between.{StandsBetween}
use Rattle.cmh_controller3.proofs.controller.Controller.forget_frame.Goals as goal

pub returns-in-Probe : goal.returns-in-Probe
returns-in-Probe c = λ old a n given.
    c.forget_probe.ensures old a n c.in-Probe.stamp c.in-Probe.from
    (subst (λ (f : Frame). StandsBetween old (Got a n f) c.args.before.now c.args.declared c.args.self.now) c.in-Probe.is given)

use Rattle.cmh_cluster3.proofs.OneAnswer.{just_one, own_one}
use Rattle.cmh_cluster3.proofs.stepping.step.Goals as goal

pub step_all-requires : goal.step_all-requires
step_all-requires g c =
    own_one c.deref.result.now c.args.event
    (just_one c.deref.result.now c.new-events.result.items c.push.new.self.items c.args.event c.deref.ensures.value c.in_ok-push.ensures.items c.new-events.ensures.items)
    c.requires

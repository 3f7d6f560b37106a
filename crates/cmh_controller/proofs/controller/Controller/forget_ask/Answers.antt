use Rattle.cmh_controller.proofs.OfSite.{before_ask_site}
use Rattle.cmh_controller.proofs.controller.Controller.forget_ask.Goals as goal

pub invariant_of-self : goal.invariant_of-self
invariant_of-self c = rw c.take_back.ensures (before_ask_site c.self.inside.topology c.self.inside.site c.self.inside.waits c.args.asker c.args.targets.now c.self.invariant)

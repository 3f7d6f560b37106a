use Rattle.std.proofs.Common.{None}
use Rattle.cmh_controller.proofs.OfSite.{replied_site}
use Rattle.cmh_controller.proofs.Changes.{after_reply}
use Rattle.cmh_controller.proofs.controller.Controller.reply.Goals as goal

pub invariant_of-self : goal.invariant_of-self
invariant_of-self c = rw c.reply-woke.ensures.value (replied_site c.self.inside.topology c.self.inside.site c.self.inside.waits c.args.holder c.args.asker c.self.invariant)

pub returns : goal.returns
returns c =
    let inside = c.self.inside in
    after_reply inside.topology inside.site inside.waits c.reply-woke.new.self inside.dependents _ inside.declared c.args.self.now c.args.asker c.args.holder c.reply-woke.result None
    c.self.view_is c.self.invariant c.reply-woke.ensures.value c.reply-woke.ensures.woke c.forget_dependents.ensures

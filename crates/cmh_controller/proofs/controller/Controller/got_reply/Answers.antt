use Rattle.cmh_controller.proofs.OfSite.{got_reply_site}
use Rattle.cmh_controller.proofs.Changes.{after_got_reply}
use Rattle.cmh_controller.proofs.controller.Controller.got_reply.Goals as goal

pub invariant_of-self : goal.invariant_of-self
invariant_of-self c = rw c.got_reply-woke.ensures.value (got_reply_site c.self.inside.topology c.self.inside.site c.self.inside.waits c.args.asker c.args.holder c.self.invariant)

pub returns : goal.returns
returns c =
    let inside = c.self.inside in
    after_got_reply inside.topology inside.site inside.waits c.got_reply-woke.new.self inside.dependents _ inside.declared c.args.self.now c.args.asker c.args.holder c.got_reply-woke.result
    c.self.view_is c.got_reply-woke.ensures.value c.got_reply-woke.ensures.woke c.forget_dependents.ensures

use Rattle.std.proofs.Common.{rules, ◌+◌, take, sym, subst}
use Rattle.cmh_talk.specs.Replies.{IsReply}
use Rattle.cmh_client.specs.Desks.{AreReplies}
use Rattle.cmh_talk.proofs.Replies.{one_more}
use Rattle.cmh_service.proofs.host.Host.push_steps.Goals as goal

pub loop-event-preserved : goal.loop-event-preserved
loop-event-preserved g c = record {
  made = subst (λ replies. AreReplies IsReply (take (c.loop-event.event-index + 1) c.args.events.now) replies) (sym c.push_reserved.ensures.items)
      (one_more c.args.events.now c.loop-event.event-index c.event-item.result c.loop-event.replies.items _ (search rules) c.event-item.is
      c.loop-event.invariant.made c.step.ensures);
  count = (search rules);
  room = (search rules);
}

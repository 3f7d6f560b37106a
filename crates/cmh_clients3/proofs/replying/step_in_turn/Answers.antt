use Rattle.std.proofs.Common.{rules, ◌+◌, take, sym, subst}
use Rattle.cmh_clients3.specs.Replies.{TakenInTurn}
use Rattle.cmh_clients3.proofs.Turns.{one_more}
use Rattle.cmh_clients3.proofs.replying.step_in_turn.Goals as goal

pub loop-event-preserved : goal.loop-event-preserved
loop-event-preserved g c =
    let told = g.F.SegmentFile.told in
    let works = g.F.SegmentFile.has_failed in
    record {
      taken = subst (λ replies. TakenInTurn told works c.args.node.now (take (c.loop-event.event-index + 1) c.args.events.now) replies c.step_one-reply.new.node)
          (sym c.push_reserved.ensures.items)
          (one_more told works c.args.events.now c.loop-event.event-index c.event-item.result c.args.node.now c.loop-event.node c.step_one-reply.new.node
          c.loop-event.replies.items c.step_one-reply.result c.loop-event-test.true c.event-item.is c.loop-event.invariant.taken c.step_one-reply.ensures);
      count = (search rules);
      room = (search rules);
    }

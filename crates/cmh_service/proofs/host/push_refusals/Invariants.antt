use Rattle.std.proofs.Common.{◌≡◌, ◌≤◌, length, take, vec_len, vec_capacity}
use Rattle.cmh_talk.specs.Replies.{IsReply}
use Rattle.cmh_client.specs.Desks.{AreReplies}
use Rattle.cmh_service.proofs.host.push_refusals.Given as goal

abbrev pub invariant-loop-event : goal.invariant-loop-event
invariant-loop-event l = record {
  made : AreReplies IsReply (take l.event-index l.fn.events) l.replies.items;
  count : vec_len l.replies ≡ l.event-index;
  room : length l.fn.events ≤ vec_capacity l.replies;
}

use Rattle.std.proofs.Common.{◌≡◌, ◌≤◌, length, take, vec_len, vec_capacity}
use Rattle.cmh_clients3.specs.Replies.{TakenInTurn}
use Rattle.cmh_clients3.proofs.replying.step_in_turn.Given as goal

abbrev pub invariant-loop-event : goal.invariant-loop-event
invariant-loop-event g l = record {
  taken : TakenInTurn g.F.SegmentFile.told g.F.SegmentFile.has_failed l.fn.node (take l.event-index l.fn.events) l.replies.items l.node;
  count : vec_len l.replies ≡ l.event-index;
  room : length l.fn.events ≤ vec_capacity l.replies;
}

use Rattle.std.proofs.Common.{◌≡◌, ◌≤◌, length, map, take, vec_len, vec_capacity}
use Rattle.cmh_talk3.specs.Numbers.{reply_of_none}
use Rattle.cmh_clients3.proofs.replying.put_same.Given as goal

abbrev pub invariant-loop-event : goal.invariant-loop-event
invariant-loop-event l = record {
  made : l.replies.items ≡ map (λ _. reply_of_none l.fn.why) (take l.event-index l.fn.events);
  count : vec_len l.replies ≡ l.event-index;
  room : length l.fn.events ≤ vec_capacity l.replies;
}

use Rattle.std.proofs.Common.{◌≡◌, ◌≤◌, length, map, take, vec_len, vec_capacity}
use Rattle.cmh_talk.specs.Replies.{event_reply_of}
use Rattle.cmh_service.proofs.host.push_answers.Given as goal

abbrev pub invariant-loop-answer : goal.invariant-loop-answer
invariant-loop-answer l = record {
  made : l.replies.items ≡ map event_reply_of (take l.answer-index l.fn.answers);
  count : vec_len l.replies ≡ l.answer-index;
  room : length l.fn.answers ≤ vec_capacity l.replies;
}

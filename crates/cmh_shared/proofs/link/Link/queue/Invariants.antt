use Rattle.std.proofs.Common.{◌≡◌, ◌++◌, ◌≤◌, ◌+◌, ◌-◌, take, length}
use Rattle.std.specs.VecDeque.{deque_len, deque_capacity}
use Rattle.cmh_runs.specs.Journals.{frames_to}
use Rattle.cmh_shared.proofs.link.Link.queue.Given as goal

abbrev pub invariant-loop-to : goal.invariant-loop-to
invariant-loop-to g l = record {
  to : l.self.to ≡ l.initial.self.to;
  producer : l.self.producer ≡ l.initial.self.producer;
  backlog : l.self.backlog.items ≡ l.initial.self.backlog.items ++ frames_to l.initial.self.to (take l.to-index l.sent);
  room : length l.sent - l.to-index + (deque_capacity l.initial.self.backlog - deque_len l.initial.self.backlog)
      ≤ (deque_capacity l.self.backlog - deque_len l.self.backlog) + length l.sent;
}

use Rattle.std.proofs.Common.{◌≡◌, ◌++◌}
use Rattle.std.specs.VecDeque.{deque_len}
use mathlib.Core.List.{IsPrefix}
use Rattle.rtrb.specs.Ring.{sent, SameProducer}
use Rattle.cmh_shared.proofs.link.Link.refill.Given as goal

abbrev pub invariant-loop-self : goal.invariant-loop-self
invariant-loop-self g l = record {
  to : l.self.to ≡ l.initial.self.to;
  ring : SameProducer l.initial.self.producer l.self.producer;
  grows : IsPrefix (sent l.initial.self.producer) (sent l.self.producer);
  all : sent l.self.producer ++ l.self.backlog.items ≡ sent l.initial.self.producer ++ l.initial.self.backlog.items;
}

abbrev pub decreases-loop-self : goal.decreases-loop-self
decreases-loop-self g l = deque_len l.self.backlog

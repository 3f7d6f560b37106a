use Rattle.std.proofs.Common.{◌≡◌, List, length}
use Rattle.cmh_model3.specs.declared.frame.Message.{Message}
use Rattle.cmh_wire3.specs.Wire.{spelled}
use Rattle.cmh_links3.specs.Growing.{Grows}
use Rattle.cmh_links3.specs.Speaking.{GivesAll, says}
use Rattle.cmh_links3.proofs.outgoing.Outgoing.queue_messages.Given as goal

abbrev pub invariant-loop-queued : goal.invariant-loop-queued
invariant-loop-queued g l = record {
  messages : List Message;
  given : GivesAll l.fn.self.place l.now messages l.fn.node l.node;
  said : l.self ≡ says (spelled messages) l.fn.self;
  peers : length l.node.peers ≡ length l.fn.node.peers;
  grows : Grows g.F.SegmentFile.told g.F.SegmentFile.has_failed l.fn.node l.node;
}

use Rattle.std.proofs.Common.{◌≡◌, take}
use Rattle.cmh_node3.specs.Peers.{with_messages}
use Rattle.cmh_node3.proofs.taken.take_all.Given as goal

abbrev pub invariant-loop-message : goal.invariant-loop-message
invariant-loop-message l = l.into ≡ with_messages (take l.message-index l.messages) l.fn.into

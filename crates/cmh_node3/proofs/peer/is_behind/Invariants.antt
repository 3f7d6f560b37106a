use Rattle.std.proofs.Common.{◌≡◌, drop}
use Rattle.std.specs.List.{list_any}
use Rattle.cmh_node3.specs.Peers.{keeps_many}
use Rattle.cmh_node3.proofs.peer.is_behind.Given as goal

abbrev pub invariant-loop-peer : goal.invariant-loop-peer
invariant-loop-peer l = list_any keeps_many (drop l.peer-index l.peers) ≡ list_any keeps_many l.peers

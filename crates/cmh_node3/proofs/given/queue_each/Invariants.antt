use Rattle.std.proofs.Common.{◌≡◌, ℕ, ◌<◌, ◌≤◌, get_or}
use Rattle.cmh_node3.specs.Peers.{IsGiven}
use Rattle.cmh_node3.specs.declared.peer.Peer.{Peer}
use Rattle.cmh_node3.proofs.given.queue_each.Given as goal

abbrev pub invariant-loop-peer : goal.invariant-loop-peer
invariant-loop-peer l = record {
  done : (k : ℕ) (d e : Peer) → k < l.peer-index → IsGiven l.entries (get_or l.initial.peers k d) (get_or l.peers k e);
  rest : (k : ℕ) (d : Peer) → l.peer-index ≤ k → get_or l.peers k d ≡ get_or l.initial.peers k d;
}

use Rattle.std.proofs.Common.{◌≢◌, ℕ, ◌<◌, get_or}
use Rattle.cmh_node3.specs.declared.peer.Peer.{Peer}
use Rattle.cmh_node3.proofs.peer.place_of.Given as goal

abbrev pub invariant-loop-place : goal.invariant-loop-place
invariant-loop-place l = (k : ℕ) (d : Peer) → k < l.place → (get_or l.peers k d).site ≢ l.site

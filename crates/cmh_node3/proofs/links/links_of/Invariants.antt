use Rattle.std.proofs.Common.{◌≡◌, ℕ, ◌<◌, get_or, map, take}
use Rattle.std.specs.List.{AllByRecursion}
use Rattle.cmh_wire3.specs.Wire.{IsMessage}
use Rattle.cmh_segment3.specs.Base.{IsLinkRow}
use Rattle.cmh_node3.specs.Links.{link_of}
use Rattle.cmh_node3.specs.declared.peer.Peer.{Peer}
use Rattle.cmh_node3.proofs.links.links_of.Given as goal

-- the links so far, and that they can be rows
abbrev pub invariant-loop-peer : goal.invariant-loop-peer
invariant-loop-peer l = record {
  so_far : l.links.items ≡ map link_of (take l.peer-index l.peers);
  rows : (k : ℕ) (d : Peer) → k < l.peer-index → AllByRecursion IsMessage (get_or l.peers k d).out.kept → IsLinkRow (link_of (get_or l.peers k d));
}

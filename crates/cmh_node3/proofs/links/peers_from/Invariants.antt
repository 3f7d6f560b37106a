use Rattle.std.proofs.Common.{◌≡◌, take, map}
use Rattle.cmh_node3.specs.Links.{met_from}
use Rattle.cmh_node3.proofs.links.peers_from.Given as goal

abbrev pub invariant-loop-other : goal.invariant-loop-other
invariant-loop-other l = l.peers.items ≡ map (met_from l.fn.links l.entries) (take l.other-index l.them)

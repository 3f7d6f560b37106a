use Rattle.std.proofs.Common.{◌≡◌, take}
use Rattle.cmh_node3.specs.Peers.{others}
use Rattle.cmh_node3.proofs.peer.others_of.Given as goal

abbrev pub invariant-loop-other : goal.invariant-loop-other
invariant-loop-other l = l.them.items ≡ others l.site (take l.other-index l.sites)

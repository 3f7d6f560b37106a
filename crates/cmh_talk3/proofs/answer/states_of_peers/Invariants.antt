use Rattle.std.proofs.Common.{◌≡◌, map, take}
use Rattle.cmh_talk3.specs.Links.{states_of}
use Rattle.cmh_talk3.proofs.answer.states_of_peers.Given as goal

abbrev pub invariant-loop-peer : goal.invariant-loop-peer
invariant-loop-peer l = l.states.items ≡ map states_of (take l.peer-index l.peers)

use Rattle.std.proofs.Common.{◌≡◌, map, take}
use Rattle.cmh_node3.specs.Steps.{got_event}
use Rattle.cmh_node3.proofs.receiving.events_of.Given as goal

abbrev pub invariant-loop-message : goal.invariant-loop-message
invariant-loop-message l = l.events.items ≡ map (got_event l.from) (take l.message-index l.messages)

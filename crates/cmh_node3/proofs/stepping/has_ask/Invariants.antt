use Rattle.std.proofs.Common.{◌≡◌, drop}
use Rattle.std.specs.List.{list_any}
use Rattle.cmh_node3.specs.Steps.{is_ask}
use Rattle.cmh_node3.proofs.stepping.has_ask.Given as goal

abbrev pub invariant-loop-event : goal.invariant-loop-event
invariant-loop-event l = list_any is_ask (drop l.event-index l.events) ≡ list_any is_ask l.events

use Rattle.std.proofs.Common.{◌≡◌, drop}
use Rattle.std.specs.List.{list_any}
use Rattle.cmh_draw3.specs.Inner.Standing.{takes_step}
use Rattle.cmh_draw3.proofs.waiting.is_on_cycle.Given as goal

abbrev pub invariant-loop-deadlock : goal.invariant-loop-deadlock
invariant-loop-deadlock l =
    list_any (takes_step l.asker l.holder) (drop l.deadlock-index l.declared) ≡ list_any (takes_step l.asker l.holder) l.declared

use Rattle.std.proofs.Common.{◌≡◌, drop}
use Rattle.std.specs.List.{list_any}
use Rattle.cmh_draw3.specs.Inner.Standing.{is_stuck_in}
use Rattle.cmh_draw3.proofs.waiting.is_stuck.Given as goal

abbrev pub invariant-loop-deadlock : goal.invariant-loop-deadlock
invariant-loop-deadlock l =
    list_any (is_stuck_in l.process) (drop l.deadlock-index l.declared) ≡ list_any (is_stuck_in l.process) l.declared

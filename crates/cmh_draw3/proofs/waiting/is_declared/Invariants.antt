use Rattle.std.proofs.Common.{◌≡◌, drop}
use Rattle.std.specs.List.{list_any}
use Rattle.cmh_draw3.specs.Inner.Standing.{is_of_process}
use Rattle.cmh_draw3.proofs.waiting.is_declared.Given as goal

abbrev pub invariant-loop-deadlock : goal.invariant-loop-deadlock
invariant-loop-deadlock l =
    list_any (is_of_process l.process) (drop l.deadlock-index l.declared) ≡ list_any (is_of_process l.process) l.declared

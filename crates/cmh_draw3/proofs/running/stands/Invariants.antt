use Rattle.std.proofs.Common.{◌≡◌, drop}
use Rattle.std.specs.List.{list_any}
use Rattle.cmh_draw3.specs.Inner.Stands.{stands}
use Rattle.cmh_draw3.proofs.running.stands.Given as goal

abbrev pub invariant-loop-deadlock : goal.invariant-loop-deadlock
invariant-loop-deadlock l =
    list_any (stands l.declaration) (drop l.deadlock-index l.declared) ≡ list_any (stands l.declaration) l.declared

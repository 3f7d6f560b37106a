use Rattle.std.proofs.Common.{◌≡◌, ◌++◌}
use Rattle.std.specs.Prelude.{replicate}
use Rattle.cmh_page3.proofs.told.push_times.Given as goal

abbrev pub invariant-loop : goal.invariant-loop
invariant-loop l = l.order.items ≡ l.initial.order.items ++ replicate l.counter l.site

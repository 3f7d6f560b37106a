use Rattle.std.proofs.Common.{take, ◌≤◌}
use Rattle.std.specs.List.{AllByRecursion}
use Rattle.cmh_draw.proofs.size.last_of.Given as goal

abbrev pub invariant-loop-column : goal.invariant-loop-column
invariant-loop-column l = AllByRecursion (λ column. column ≤ l.last) (take l.column-index l.columns)

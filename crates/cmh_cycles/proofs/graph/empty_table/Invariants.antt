use Rattle.std.proofs.Common.{◌+◌, ◌/◌}
use Rattle.cmh_cycles.specs.Rows.{IsTable}
use Rattle.cmh_cycles.proofs.graph.empty_table.Given as goal

abbrev pub invariant-loop-place : goal.invariant-loop-place
invariant-loop-place l = IsTable l.table.items l.place (l.n / 64 + 1) (λ a b. ⊥)

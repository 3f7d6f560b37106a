use Rattle.std.proofs.Common.{◌≡◌, drop, length}
use Rattle.std.specs.Prelude.{nat_lt}
use Rattle.std.specs.List.{list_any}
use Rattle.cmh_frames.specs.Rows.{Row}
use Rattle.cmh_topology3.specs.Limits.{most_members}
use Rattle.cmh_topology3.proofs.rows.has_large_site.Given as goal

abbrev pub invariant-loop-row : goal.invariant-loop-row
invariant-loop-row l = list_any (λ (row : Row). nat_lt most_members (length row.1)) (drop l.row-index l.rows) ≡ list_any (λ (row : Row). nat_lt most_members (length row.1)) l.rows

use Rattle.std.proofs.Common.{◌≡◌, ◌==◌, drop, map}
use Rattle.std.specs.List.{list_any}
use Rattle.cmh_frames.specs.Rows.{Row}
use Rattle.cmh_topology3.proofs.rows.has_site.Given as goal

-- what is left has it, or all rows do
abbrev pub invariant-loop-row : goal.invariant-loop-row
invariant-loop-row l =
    list_any (λ q. q == l.site) (map (λ (row : Row). row.0) (drop l.row-index l.rows)) ≡ list_any (λ q. q == l.site) (map (λ (row : Row). row.0) l.rows)

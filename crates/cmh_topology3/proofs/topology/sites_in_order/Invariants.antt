use Rattle.std.proofs.Common.{◌≡◌, take, map}
use Rattle.cmh_frames.specs.Rows.{Row}
use Rattle.cmh_topology3.proofs.topology.sites_in_order.Given as goal

-- the sites of the rows so far
abbrev pub invariant-loop-row : goal.invariant-loop-row
invariant-loop-row l = l.sites.items ≡ map (λ (row : Row). row.0) (take l.row-index l.given)

use Rattle.std.proofs.Common.{◌≡◌, ◌+◌, take, length}
use Rattle.std.specs.List.{sum_by}
use Rattle.cmh_frames.specs.Rows.{Row}
use Rattle.cmh_topology3.specs.Limits.{most_processes}
use Rattle.cmh_topology3.proofs.rows.is_crowded.Given as goal

-- what is left is the limit without the processes so far
abbrev pub invariant-loop-row : goal.invariant-loop-row
invariant-loop-row l = l.left + sum_by (λ (row : Row). length row.1) (take l.row-index l.rows) ≡ most_processes

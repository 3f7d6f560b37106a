use Rattle.std.proofs.Common.{◌≡◌, drop}
use Rattle.cmh_frames.specs.Rows.{has_bad_number}
use Rattle.cmh_topology3.proofs.rows.has_bad_number.Given as goal

abbrev pub invariant-loop-row : goal.invariant-loop-row
invariant-loop-row l = has_bad_number (drop l.row-index l.rows) ≡ has_bad_number l.rows

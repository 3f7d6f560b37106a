use Rattle.std.proofs.Common.{◌≡◌, drop, map}
use Rattle.cmh_frames.specs.Rows.{Row, repeats}
use Rattle.cmh_topology3.proofs.rows.repeats_site.Given as goal

abbrev pub invariant-loop-i : goal.invariant-loop-i
invariant-loop-i l = repeats (map (λ (row : Row). row.0) (drop l.i l.rows)) ≡ repeats (map (λ (row : Row). row.0) l.rows)

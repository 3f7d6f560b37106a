use Rattle.std.proofs.Common.{◌≡◌, drop}
use Rattle.cmh_frames.specs.Rows.{repeats}
use Rattle.cmh_audit3.specs.Set.{sites_in}
use Rattle.cmh_audit3.proofs.set.has_site_twice.Given as goal

abbrev pub invariant-loop-i : goal.invariant-loop-i
invariant-loop-i l = repeats (sites_in (drop l.i l.segments)) ≡ repeats (sites_in l.segments)

use Rattle.std.proofs.Common.{◌≡◌, drop}
use Rattle.cmh_audit3.specs.Set.{has_site, sites_in}
use Rattle.cmh_audit3.proofs.set.is_covered.Given as goal

abbrev pub invariant-loop-segment : goal.invariant-loop-segment
invariant-loop-segment l = has_site (sites_in (drop l.segment-index l.segments)) l.site ≡ has_site (sites_in l.segments) l.site

use Rattle.std.proofs.Common.{◌≡◌, false, take}
use Rattle.cmh_audit3.specs.Set.{has_site, sites_in}
use Rattle.cmh_audit3.proofs.stops.place_of.Given as goal

-- none of the segments so far is of the site
abbrev pub invariant-loop-i : goal.invariant-loop-i
invariant-loop-i l = has_site (sites_in (take l.i l.segments)) l.site ≡ false

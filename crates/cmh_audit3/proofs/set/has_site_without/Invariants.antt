use Rattle.std.proofs.Common.{◌≡◌, drop}
use Rattle.cmh_audit3.specs.Set.{lacks_site, sites_in}
use Rattle.cmh_audit3.proofs.set.has_site_without.Given as goal

abbrev pub invariant-loop-site : goal.invariant-loop-site
invariant-loop-site l = lacks_site (drop l.site-index l.sites) (sites_in l.segments) ≡ lacks_site l.sites (sites_in l.segments)

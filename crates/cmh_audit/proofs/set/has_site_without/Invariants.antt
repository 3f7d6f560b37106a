use Rattle.std.proofs.Common.{◌≡◌, drop}
use Rattle.cmh_audit.specs.Inner.Faults.{lacks_site}
use Rattle.cmh_audit.proofs.set.has_site_without.Given as goal

abbrev pub invariant-loop-site : goal.invariant-loop-site
invariant-loop-site l = lacks_site (drop l.site-index l.sites) l.journals ≡ lacks_site l.sites l.journals

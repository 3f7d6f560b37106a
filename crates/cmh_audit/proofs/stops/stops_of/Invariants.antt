use Rattle.std.proofs.Common.{◌≡◌, take}
use Rattle.cmh_audit.specs.Inner.FoundStops.{stops_at}
use Rattle.cmh_audit.proofs.stops.stops_of.Given as goal

abbrev pub invariant-loop-site : goal.invariant-loop-site
invariant-loop-site l = l.rows.items ≡ stops_at (take l.site-index l.sites) l.journals l.taken

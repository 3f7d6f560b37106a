use Rattle.std.proofs.Common.{◌≡◌, map, take}
use Rattle.cmh_cluster.specs.Settling.{no_receipts}
use Rattle.cmh_cluster.proofs.settling.none_received.Given as goal

-- the links so far
abbrev pub invariant-loop-site : goal.invariant-loop-site
invariant-loop-site l = l.row.items ≡ map no_receipts (take l.site-index l.sites)

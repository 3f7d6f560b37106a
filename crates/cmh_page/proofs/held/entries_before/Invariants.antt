use Rattle.std.proofs.Common.{◌≡◌, drop}
use Rattle.cmh_audit.specs.Stops.{before_stop}
use Rattle.cmh_page.proofs.held.entries_before.Given as goal

abbrev pub invariant-loop-stopped : goal.invariant-loop-stopped
invariant-loop-stopped l = before_stop l.stops l.site l.entries ≡ before_stop (drop l.stopped-index l.stops) l.site l.entries

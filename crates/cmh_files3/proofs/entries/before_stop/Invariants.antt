use Rattle.std.proofs.Common.{◌≡◌, drop}
use Rattle.cmh_audit3.specs.Stops.{before_stop}
use Rattle.cmh_files3.proofs.entries.before_stop.Given as goal

abbrev pub invariant-loop-stop : goal.invariant-loop-stop
invariant-loop-stop l = before_stop l.stops l.site l.entries ≡ before_stop (drop l.stop-index l.stops) l.site l.entries

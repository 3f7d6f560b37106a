use Rattle.std.proofs.Common.{◌≡◌, drop}
use Rattle.cmh_audit3.specs.Stops.{before_stop}
use Rattle.cmh_inputs.proofs.span.entries_before.Given as goal

-- none of the stops so far is of the site
abbrev pub invariant-loop-stop : goal.invariant-loop-stop
invariant-loop-stop l = before_stop (drop l.stop-index l.stops) l.segment.header.site l.segment.entries ≡ before_stop l.stops l.segment.header.site l.segment.entries

use Rattle.std.proofs.Common.{◌≡◌, take}
use Rattle.cmh_report3.specs.Transit.{got_in, kept}
use Rattle.cmh_report3.proofs.totals.got_in.Given as goal

abbrev pub invariant-loop-event : goal.invariant-loop-event
invariant-loop-event l = l.got ≡ kept (got_in (take l.event-index l.events))

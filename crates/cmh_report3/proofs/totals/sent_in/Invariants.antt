use Rattle.std.proofs.Common.{◌≡◌, take}
use Rattle.cmh_report3.specs.Transit.{sent_in, kept}
use Rattle.cmh_report3.proofs.totals.sent_in.Given as goal

abbrev pub invariant-loop-event : goal.invariant-loop-event
invariant-loop-event l = l.sent ≡ kept (sent_in (take l.event-index l.events))

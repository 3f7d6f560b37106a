use Rattle.cmh_report3.proofs.Stopping.{IsStopSoFar}
use Rattle.cmh_report3.proofs.stop.stop_of.Given as goal

abbrev pub invariant-loop-event : goal.invariant-loop-event
invariant-loop-event l = IsStopSoFar l.number l.events l.event-index l.clocks l.waits l.ended l.left

use Rattle.cmh_report3.proofs.Declaring.{AreToldSoFar}
use Rattle.cmh_report3.proofs.declarations.declarations_of.Given as goal

abbrev pub invariant-loop-event : goal.invariant-loop-event
invariant-loop-event l = AreToldSoFar l.events l.event-index l.clocks l.told.items

use Rattle.cmh_cycles.proofs.GraphLemmas.{AreAskersSoFar}
use Rattle.cmh_cycles.proofs.graph.askers_of.Given as goal

abbrev pub invariant-loop-asker : goal.invariant-loop-asker
invariant-loop-asker l = AreAskersSoFar l.waits l.asker-index l.processes.items l.last

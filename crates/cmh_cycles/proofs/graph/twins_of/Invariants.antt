use Rattle.cmh_cycles.proofs.GraphLemmas.{AreTwinsSoFar}
use Rattle.cmh_cycles.proofs.graph.twins_of.Given as goal

abbrev pub invariant-loop-place : goal.invariant-loop-place
invariant-loop-place l = AreTwinsSoFar l.askers l.place l.twins.items

use Rattle.cmh_files.specs.Inner.Steps.{StandsAt}
use Rattle.cmh_files.proofs.walk.Walk.to.Given as goal

abbrev pub invariant-loop : goal.invariant-loop
invariant-loop l = StandsAt l.journal l.counter l.walk

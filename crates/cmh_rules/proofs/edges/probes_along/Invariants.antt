use Rattle.cmh_rules.proofs.Leaving.{ProbesWithout}
use Rattle.cmh_rules.proofs.edges.probes_along.Given as goal

-- the probes from the members so far, of those that wait for processes of other sites
abbrev pub invariant-loop-left : goal.invariant-loop-left
invariant-loop-left l = ProbesWithout l.waits l.origin l.fn.reach.leaving l.left l.frames.items

abbrev pub decreases-loop-left : goal.decreases-loop-left
decreases-loop-left l = l.left

use Rattle.cmh_waits3.specs.Inner.Steps.{has_place}
use Rattle.cmh_waits3.proofs.Counting.{count_below}
use Rattle.cmh_waits3.proofs.Edges.{AreEdgesWithout}
use Rattle.cmh_waits3.proofs.search.edges_within.Given as goal

-- the edges of those that are not left
abbrev pub invariant-loop-place : goal.invariant-loop-place
invariant-loop-place l = AreEdgesWithout l.waits l.stamp l.origin l.fn.reached.words l.left.words l.edges.items

abbrev pub decreases-loop-place : goal.decreases-loop-place
decreases-loop-place l = count_below (has_place l.left.words) 256

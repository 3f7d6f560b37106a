use Rattle.std.proofs.Common.{◌+◌, ◌-◌, ◌*◌, get_or}
use Rattle.cmh_waits3.specs.Inner.Steps.{has_place}
use Rattle.cmh_waits3.proofs.Counting.{count_below}
use Rattle.cmh_waits3.proofs.Searching.{Searching}
use Rattle.cmh_waits3.proofs.search.reach_within.Given as goal

abbrev pub invariant-loop-place : goal.invariant-loop-place
invariant-loop-place l = Searching l.waits l.stamp l.origin (get_or l.waits.members l.start 0) l.reached.words l.work.words l.awaited.words

-- each turn takes a place from what is left to look at, and what it adds was not reached before
abbrev pub decreases-loop-place : goal.decreases-loop-place
decreases-loop-place l = 2 * (256 - count_below (has_place l.reached.words) 256) + count_below (has_place l.work.words) 256

use Rattle.std.proofs.Common.{◌+◌, ◌-◌, ◌*◌, get_or}
use Rattle.cmh_dependents.proofs.Awaited.{AreLeavingSoFar, AreLookedAt}
use Rattle.cmh_dependents.proofs.Searching.{Searching}
use Rattle.cmh_dependents.proofs.reach.reached_from.Given as goal

-- What has a 1 is reached, and leads to what has one but for what is left to look at; for whom those wait that were
-- looked at, has a 1 in the other row; and they have one in the third where they wait for processes of other sites.
abbrev pub invariant-loop-work : goal.invariant-loop-work
invariant-loop-work l = record {
  searching : Searching l.waits (get_or l.waits.members l.fn.start 0) l.reached l.work;
  looked : AreLookedAt l.waits l.reached l.work l.awaited;
  leaving : AreLeavingSoFar l.waits l.reached l.work l.leaving;
}

abbrev pub decreases-loop-work : goal.decreases-loop-work
decreases-loop-work l = (18446744073709551616 - l.reached) * 18446744073709551616 + l.work

use Rattle.std.proofs.Common.{drop}
use Rattle.cmh_merge.specs.Queues.{waiting}
use Rattle.cmh_history3.specs.Between.{under_way}
use Rattle.cmh_history3.proofs.Queueing.{BetweenGoing}
use Rattle.cmh_history3.proofs.under_way.queues_of.Given as goal

-- what is under way from the sites that are left is not in the queues yet
abbrev pub invariant-loop-from : goal.invariant-loop-from
invariant-loop-from l = BetweenGoing (under_way l.segments) (waiting l.queues) l.sites (drop l.from-index l.sites)

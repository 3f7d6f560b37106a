use Rattle.std.proofs.Common.{drop}
use Rattle.cmh_merge.specs.Queues.{waiting}
use Rattle.cmh_history3.specs.Between.{under_way}
use Rattle.cmh_history3.proofs.Queueing.{FromGoing}
use Rattle.cmh_history3.proofs.under_way.send_from.Given as goal

-- what is under way to the sites that are left is not in the queues yet
abbrev pub invariant-loop-to : goal.invariant-loop-to
invariant-loop-to l = FromGoing (under_way l.segments) (waiting l.fn.queues) (waiting l.queues) l.from l.sites (drop l.to-index l.sites)

use Rattle.std.proofs.Common.{◌≡◌}
use Rattle.cmh_merge.specs.Walks.{lefts_of, sites_of}
use Rattle.cmh_merge.specs.Inner.Merging.{GoesOn, total}
use Rattle.cmh_merge.proofs.merging.take_all_at.Given as goal

abbrev pub invariant-loop-moved : goal.invariant-loop-moved
invariant-loop-moved g l = record {
  sites : sites_of l.walks.items ≡ sites_of l.fn.walks.items;
  goes_on : GoesOn g.W.Walk.got (sites_of l.fn.walks.items) l.moved (lefts_of g.W.Walk.left l.fn.walks.items) (lefts_of g.W.Walk.left l.walks.items) l.fn.queues l.queues l.fn.order.items l.order.items;
}

abbrev pub decreases-loop-moved : goal.decreases-loop-moved
decreases-loop-moved g l = total (lefts_of g.W.Walk.left l.walks.items)

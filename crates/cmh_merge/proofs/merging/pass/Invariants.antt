use Rattle.std.proofs.Common.{◌≡◌, ℕ, ◌<◌, false}
use Rattle.cmh_merge.specs.Walks.{lefts_of, sites_of}
use Rattle.cmh_merge.specs.Inner.Merging.{GoesOn, StuckAt}
use Rattle.cmh_merge.proofs.merging.pass.Given as goal

abbrev pub invariant-loop-place : goal.invariant-loop-place
invariant-loop-place g l = record {
  sites : sites_of l.walks.items ≡ sites_of l.fn.walks.items;
  goes_on : GoesOn g.W.Walk.got (sites_of l.fn.walks.items) l.moved (lefts_of g.W.Walk.left l.fn.walks.items) (lefts_of g.W.Walk.left l.walks.items) l.fn.queues l.queues l.fn.order.items l.order.items;
  stuck : l.moved ≡ false → (k : ℕ) → k < l.place → StuckAt g.W.Walk.got (sites_of l.fn.walks.items) (lefts_of g.W.Walk.left l.walks.items) l.queues k;
}

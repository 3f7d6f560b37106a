use Rattle.std.proofs.Common.{◌≡◌, ℕ, ◌+◌, ◌*◌, ◌<◌, false, length, if◌then◌else◌}
use Rattle.cmh_merge.specs.Walks.{lefts_of, sites_of}
use Rattle.cmh_merge.specs.Queues.{waiting}
use Rattle.cmh_merge.specs.Inner.Merging.{IsMerging, StuckAt, total}
use Rattle.cmh_merge.proofs.merging.merge_from.Given as goal

abbrev pub invariant-loop-moves : goal.invariant-loop-moves
invariant-loop-moves g l = record {
  sites : sites_of l.walks.items ≡ sites_of l.fn.walks.items;
  merging : IsMerging g.W.Walk.got (sites_of l.fn.walks.items) (waiting l.fn.queues) (lefts_of g.W.Walk.left l.fn.walks.items) (lefts_of g.W.Walk.left l.walks.items) l.queues l.order.items;
  stuck : l.moves ≡ false → (k : ℕ) → k < length l.walks.items → StuckAt g.W.Walk.got (sites_of l.fn.walks.items) (lefts_of g.W.Walk.left l.walks.items) l.queues k;
}

abbrev pub decreases-loop-moves : goal.decreases-loop-moves
decreases-loop-moves g l = 2 * total (lefts_of g.W.Walk.left l.walks.items) + (if l.moves then 1 else 0)

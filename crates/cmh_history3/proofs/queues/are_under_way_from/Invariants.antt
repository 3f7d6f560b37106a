use Rattle.std.proofs.Common.{◌≡◌, drop, take}
use Rattle.std.specs.List.{All}
use Rattle.cmh_merge.specs.Queues.{waiting}
use Rattle.cmh_history3.specs.Between.{under_way}
use Rattle.cmh_history3.proofs.Waiting.{LeftFrom}
use Rattle.cmh_history3.proofs.queues.are_under_way_from.Given as goal

-- those to the sites so far were under way, and those to the others have not been taken out
abbrev pub invariant-loop-to : goal.invariant-loop-to
invariant-loop-to l = record {
  same : All (λ b. waiting l.fn.queues l.from b ≡ under_way l.next l.from b) (take l.to-index l.sites);
  left : LeftFrom (waiting l.fn.queues) (waiting l.queues) l.from (drop l.to-index l.sites);
}

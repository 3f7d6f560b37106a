use Rattle.std.proofs.Common.{◌≡◌, drop, take}
use Rattle.std.specs.List.{All}
use Rattle.cmh_merge.specs.Queues.{waiting}
use Rattle.cmh_history3.specs.Between.{under_way}
use Rattle.cmh_history3.proofs.Waiting.{LeftAll}
use Rattle.cmh_history3.proofs.queues.are_under_way.Given as goal

-- those from the sites so far were under way, and those from the others have not been taken out
abbrev pub invariant-loop-from : goal.invariant-loop-from
invariant-loop-from l = record {
  same : All (λ a. All (λ b. waiting l.fn.queues a b ≡ under_way l.next a b) l.sites) (take l.from-index l.sites);
  left : LeftAll (waiting l.fn.queues) (waiting l.queues) (drop l.from-index l.sites);
}

use Rattle.std.proofs.Common.{◌≡◌, ℕ, ◌==◌, ◌&&◌, not, take}
use Rattle.cmh_model3.specs.Lists.{in_list}
use Rattle.cmh_report3.specs.Inner.Pairs.{has_pair}
use Rattle.cmh_report3.proofs.waits.remove_all.Given as goal

abbrev pub invariant-loop-second : goal.invariant-loop-second
invariant-loop-second l =
    (j k : ℕ) → has_pair l.pairs j k ≡ (not ((l.first == j) && in_list (take l.second-index l.seconds) k) && has_pair l.fn.pairs j k)

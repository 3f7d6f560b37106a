use Rattle.std.proofs.Common.{◌≡◌, ◌&&◌, not, ℕ, length, nat_lt, get_or, take}
use Rattle.cmh_model3.specs.Lists.{in_list}
use Rattle.cmh_waits3.specs.Inner.Steps.{has_place}
use Rattle.cmh_waits3.proofs.summary.without_processes.Given as goal

-- without those so far
abbrev pub invariant-loop-process : goal.invariant-loop-process
invariant-loop-process l = (k : ℕ) → has_place l.left.words k
    ≡ (has_place l.fn.places.words k && not (nat_lt k (length l.members) && in_list (take l.process-index l.processes) (get_or l.members k 0)))

use Rattle.std.proofs.Common.{ℕ, ◌<◌, ◌≢◌, get_or, IsSome}
use Rattle.cmh_frames.specs.Topology.{home}
use Rattle.cmh_controller.proofs.controller.are_targets.Given as goal

-- those so far are known, and none is the asker
abbrev pub invariant-loop-target : goal.invariant-loop-target
invariant-loop-target l = (k : ℕ) → k < l.target-index → IsSome (home l.topology (get_or l.targets k 0)) × (get_or l.targets k 0 ≢ l.asker)

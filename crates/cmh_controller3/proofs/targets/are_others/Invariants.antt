use Rattle.std.proofs.Common.{◌≡◌, ◌≢◌, ℕ, true, take}
use Rattle.cmh_model3.specs.Lists.{in_list}
use Rattle.cmh_topology3.specs.Topology.{site_of}
use Rattle.cmh_controller3.proofs.targets.are_others.Given as goal

-- those so far are known, and others than the asker
abbrev pub invariant-loop-target : goal.invariant-loop-target
invariant-loop-target l = (k : ℕ) → in_list (take l.target-index l.targets) k ≡ true → (k ≢ l.asker) × (site_of l.topology k ≢ 0)

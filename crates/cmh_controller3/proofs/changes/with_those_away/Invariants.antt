use Rattle.std.proofs.Common.{◌≡◌, ◌==◌, ◌&&◌, ◌||◌, ℕ, not, take}
use Rattle.cmh_model3.specs.Lists.{in_list}
use Rattle.cmh_topology3.specs.Topology.{site_of}
use Rattle.cmh_controller3.proofs.changes.with_those_away.Given as goal

-- those so far are in the row
abbrev pub invariant-loop-target : goal.invariant-loop-target
invariant-loop-target l = (k : ℕ) → in_list l.row k ≡ ((not (site_of l.topology k == l.site) && in_list (take l.target-index l.targets) k) || in_list l.fn.row k)

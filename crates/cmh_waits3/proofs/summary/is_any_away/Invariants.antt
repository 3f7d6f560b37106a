use Rattle.std.proofs.Common.{◌≡◌, ℕ, true, take}
use Rattle.cmh_model3.specs.Lists.{in_list}
use Rattle.cmh_waits3.proofs.summary.is_any_away.Given as goal

-- those so far are of the site
abbrev pub invariant-loop-process : goal.invariant-loop-process
invariant-loop-process l = (k : ℕ) → in_list (take l.process-index l.processes) k ≡ true → in_list l.members k ≡ true

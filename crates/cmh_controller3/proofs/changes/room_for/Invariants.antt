use Rattle.std.proofs.Common.{◌≡◌, ℕ, ◌<◌, true, take}
use Rattle.cmh_model3.specs.Lists.{in_list}
use Rattle.cmh_controller3.proofs.changes.room_for.Given as goal

-- it is above those so far
abbrev pub invariant-loop-process : goal.invariant-loop-process
invariant-loop-process l = (p : ℕ) → in_list (take l.process-index l.processes) p ≡ true → p < l.room

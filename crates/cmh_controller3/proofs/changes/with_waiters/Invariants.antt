use Rattle.std.proofs.Common.{◌≡◌, ◌&&◌, ◌||◌, ℕ, take}
use Rattle.cmh_model3.specs.Lists.{in_list}
use Rattle.cmh_waits3.specs.Held.{waits_of}
use Rattle.cmh_controller3.proofs.changes.with_waiters.Given as goal

-- those so far are in the row
abbrev pub invariant-loop-asker : goal.invariant-loop-asker
invariant-loop-asker l = (j : ℕ) → in_list l.row j ≡ ((in_list (waits_of l.waits j) l.holder && in_list (take l.asker-index l.asker-items) j) || in_list l.fn.row j)

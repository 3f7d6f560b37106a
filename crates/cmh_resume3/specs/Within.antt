-- What holds of the place of every sender's end.
use Rattle.std.specs.Prelude.{ℕ, ◌≤◌}
use Rattle.cmh_resume3.specs.declared.sender.State.{State}
use Rattle.cmh_resume3.specs.declared.sender.State.TheVariants.{Running}

-- the next message is none of those acknowledged, and no later one than the first that is still to be sent
abbrev pub IsWithin : ℕ → ℕ → State → Type 0
IsWithin acked most (Running next spoke heard) = (acked ≤ next) × (next ≤ most)
IsWithin acked most state = Unit {0}

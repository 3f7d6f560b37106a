-- The statuses with which a command ends.
use Rattle.std.specs.Prelude.{◌≡◌, ℕ, ◌⊎◌}

-- 0 at the end, 1 where it was refused or memory ran out, 3 at any other fault
abbrev pub IsStatus : ℕ → Type 0
IsStatus n = (n ≡ 0) ⊎ (n ≡ 1) ⊎ (n ≡ 3)

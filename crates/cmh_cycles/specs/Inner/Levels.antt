-- The places from which a fixed one is reached, level by level.
use Rattle.std.specs.Prelude.{◌≡◌, ℕ, ◌+◌, ◌-◌, ◌<◌, ◌≤◌, true, List, length}
use Rattle.cmh_frames.specs.Paths.{IsPath}
use Rattle.cmh_bits.specs.Bits.{has_number}
use Rattle.cmh_cycles.specs.Rows.{row_at}

-- the level d has the place
abbrev pub IsIn : List (List ℕ) → ℕ → ℕ → Type 0
IsIn levels d v = has_number (row_at levels d) v ≡ true

-- the level d has the places from which `to` is reached by d steps and no fewer
pub record AreLevels (R : ℕ → ℕ → Type 0) (to : ℕ) (levels : List (List ℕ)) : Type 0 where
  pub reached : (d v : ℕ) → IsIn levels d v → (members : List ℕ) × IsPath R v members to × (length members ≡ d)
  pub short : (d v : ℕ) (members : List ℕ) → IsIn levels d v → IsPath R v members to → d ≤ length members
  pub least : (v : ℕ) (members : List ℕ) → IsPath R v members to → length members < length levels
      → (d : ℕ) × IsIn levels d v × (d ≤ length members)

-- the last level has a place that `to` leads to, and no level before it has one
pub record LeadBack (R : ℕ → ℕ → Type 0) (to : ℕ) (levels : List (List ℕ)) : Type 0 where
  pub are : AreLevels R to levels
  pub some : 0 < length levels
  pub met : (v : ℕ) × R to v × IsIn levels (length levels - 1) v
  pub first : (d v : ℕ) → IsIn levels d v → R to v → length levels ≤ d + 1

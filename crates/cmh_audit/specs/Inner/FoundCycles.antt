-- The cycles of several processes, as the report has them.
use Rattle.std.specs.Prelude.{ℕ, List, Contains}
use Rattle.std.specs.List.{AllZip}
use Rattle.cmh_cycles.specs.Cycles.{IsFirstCycleOf}
use Rattle.cmh_cycles.specs.FoundCycles.{IsCycleIn, WaitsIn}

-- where there is a cycle through i, it is the first
abbrev pub IsFoundCycle : List (ℕ × ℕ) → ℕ → List ℕ → Type 0
IsFoundCycle waits i members =
    (other : List ℕ) → IsCycleIn waits i other → IsFirstCycleOf (λ j k. WaitsIn waits j k) i members

-- one for each of these processes
abbrev pub AreFoundCycles : List (ℕ × ℕ) → List ℕ → List (List ℕ) → Type 0
AreFoundCycles waits processes cycles = AllZip (IsFoundCycle waits) processes cycles

-- the first of each of these processes
abbrev pub AreFirstCycles : List (ℕ × ℕ) → List ℕ → List (List ℕ) → Type 0
AreFirstCycles waits processes cycles = AllZip (IsFirstCycleOf (λ j k. WaitsIn waits j k)) processes cycles

-- each of them is on a cycle
abbrev pub AreOnCycles : List (ℕ × ℕ) → List ℕ → Type 0
AreOnCycles waits processes = (i : ℕ) → Contains processes i → (members : List ℕ) × IsCycleIn waits i members

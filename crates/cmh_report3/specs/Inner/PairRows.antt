-- Sets of pairs, process by process.
use Rattle.std.specs.Prelude.{◌≡◌, ◌↔◌, ℕ, ◌≤◌, ◌<◌, true, List, length, Contains}
use Rattle.std.specs.List.Sorted.{IsStrictlySortedBy}
use Rattle.cmh_runs.specs.Number.{IsNumber}
use Rattle.cmh_frames.specs.Relation.{pair_cmp}
use Rattle.cmh_report3.specs.Inner.Pairs.{has_pair}

-- the pairs are as they were
abbrev pub SamePairs : List (List ℕ) → List (List ℕ) → Type 0
SamePairs old new = (j k : ℕ) → has_pair new j k ≡ has_pair old j k

-- a list stands at the number of a process or is empty, and there are no more lists than numbers
pub record AreByNumber (rows : List (List ℕ)) : Type 0 where
  pub short : length rows ≤ 10000
  pub numbers : (j k : ℕ) → has_pair rows j k ≡ true → IsNumber j

-- the pairs of the first n lists, ascending
pub record ArePairsOf (rows : List (List ℕ)) (n : ℕ) (pairs : List (ℕ × ℕ)) : Type 0 where
  pub all : (e : ℕ × ℕ) → Contains pairs e ↔ ((e.0 < n) × (has_pair rows e.0 e.1 ≡ true))
  pub ascending : IsStrictlySortedBy pair_cmp pairs

-- The waits that are open, asker by asker.
use Rattle.std.specs.Prelude.{◌≡◌, ◌↔◌, ℕ, ◌≤◌, ◌<◌, true, ◌&&◌, ◌==◌, List, length, Contains}
use Rattle.std.specs.List.Sorted.{IsStrictlySortedBy}
use Rattle.cmh_frames.specs.Number.{IsNumber}
use Rattle.cmh_frames.specs.Relation.{pair_cmp}
use Rattle.cmh_frames.specs.Laws.{bit}
use Rattle.cmh_audit.specs.Turns.{is_open}

-- each wait is as it was
abbrev pub SameOpen : List (List ℕ) → List (List ℕ) → Type 0
SameOpen old new = (j k : ℕ) → is_open new j k ≡ is_open old j k

-- a list stands at the number of a process or is empty, and there are no more lists than numbers
pub record AreByAsker (rows : List (List ℕ)) : Type 0 where
  pub short : length rows ≤ 10000
  pub numbers : (j k : ℕ) → is_open rows j k ≡ true → IsNumber j

-- the pairs of the first n lists, ascending
pub record ArePairsOf (rows : List (List ℕ)) (n : ℕ) (pairs : List (ℕ × ℕ)) : Type 0 where
  pub all : (e : ℕ × ℕ) → Contains pairs e ↔ ((e.0 < n) × (is_open rows e.0 e.1 ≡ true))
  pub ascending : IsStrictlySortedBy pair_cmp pairs

abbrev pub one_at : ℕ → ℕ → ℕ → ℕ → ℕ
one_at asker holder j k = bit ((holder == k) && (asker == j))

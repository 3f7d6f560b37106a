-- What a topology keeps in its fields, and what the steps of making it come to.
use Rattle.std.specs.Prelude.{◌≡◌, ℕ, ◌≤◌, Bool, true, not, List, [], ◌∷◌, length, ◌==◌}
use Rattle.std.specs.Prelude.{Option, None, Some, map, slice_index_or}
use Rattle.std.specs.List.{list_any, AllByRecursion}
use Rattle.std.specs.List.Sorted.{IsNonDecreasing, IsPermutation, IsStrictlyIncreasing}
use Rattle.cmh_frames.specs.declared.edition.Edition.{Edition}
use Rattle.cmh_frames.specs.Edition.{site_limit, member_limit}
use Rattle.cmh_frames.specs.Number.{IsNumber, is_number}
use Rattle.cmh_frames.specs.Rows.{Row}
use Rattle.cmh_frames.specs.Topology.{home_in, lookup}

-- no number of a site or a process
abbrev pub is_bad : ℕ → Bool
is_bad n = not (is_number n)

-- the processes of a site
abbrev pub members_in : List Row → ℕ → List ℕ
members_in rows s = lookup [] rows s

-- no site and no process stands in two rows
abbrev pub AreApart : List (ℕ × List ℕ) → Type 0
AreApart [] = Unit {0}
AreApart (row ∷ rows) =
    ((p : ℕ) → list_any (λ q. q == p) row.1 ≡ true → home_in rows p ≡ None)
    × ((p : ℕ) → home_in rows p ≡ Some row.0 → ⊥) × AreApart rows

-- the site and the processes of a row have numbers
abbrev pub HasNumbers : Row → Type 0
HasNumbers row = IsNumber row.0 × AllByRecursion IsNumber row.1

-- rows within the limits of the edition, ascending, and with nothing twice
pub record AreTidy (edition : Edition) (rows : List Row) : Type 0 where
  pub apart : AreApart rows
  pub sites_ascend : IsStrictlyIncreasing (map (λ (row : Row). row.0) rows)
  pub members_ascend : AllByRecursion (λ (row : Row). IsStrictlyIncreasing row.1) rows
  pub few_members : AllByRecursion (λ (row : Row). length row.1 ≤ member_limit edition) rows
  pub few_sites : length rows ≤ site_limit edition
  pub numbers : AllByRecursion HasNumbers rows

-- at the number of each process its site
abbrev pub AreHomes : List Row → List (Option ℕ) → Type 0
AreHomes rows homes = (p : ℕ) → slice_index_or homes p None ≡ home_in rows p

-- the same numbers in order
pub record AreInOrder (numbers ordered : List ℕ) : Type 0 where
  pub ascending : IsNonDecreasing ordered
  pub same : IsPermutation numbers ordered

-- the site's processes in order
abbrev pub HasMembersOf : List Row → Row → Type 0
HasMembersOf given row = AreInOrder (members_in given row.0) row.1

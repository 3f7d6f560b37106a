-- Finite relations between numbers, as sets of pairs. Two with the same pairs are equal.
use Rattle.std.specs.Prelude.{◌≡◌, ℕ, ◌≤◌, Bool, true, List, [], ◌∷◌, length, ◌==◌}
use Rattle.std.specs.declared.cmp.Ordering.{Ordering}
use Rattle.std.specs.Ordering.{nat_cmp, on, then_cmp}
use Rattle.std.specs.FinSet as set
use Rattle.std.specs.List.{list_any}

-- pairs in order: by the first number, and then by the second
abbrev pub pair_cmp : ℕ × ℕ → ℕ × ℕ → Ordering
pair_cmp = then_cmp (on (λ (p : ℕ × ℕ). p.0) nat_cmp) (on (λ (p : ℕ × ℕ). p.1) nat_cmp)

abbrev pub Relation : Type 0
Relation = set.FinSet pair_cmp

abbrev pub Numbers : Type 0
Numbers = set.FinSet nat_cmp

-- whether the pair of a and b is in the relation
abbrev pub has : Relation → ℕ → ℕ → Bool
has r a b = set.contains r (a, b)

-- the relation with the pair, and without it
abbrev pub with_pair : Relation → ℕ → ℕ → Relation
with_pair r a b = set.insert r (a, b)

abbrev pub without_pair : Relation → ℕ → ℕ → Relation
without_pair r a b = set.remove r (a, b)

-- with a pair of a and each of bs
abbrev pub with_each : Relation → ℕ → List ℕ → Relation
with_each r a [] = r
with_each r a (b ∷ bs) = with_pair (with_each r a bs) a b

-- whether a is related to anything
abbrev pub has_some : Relation → ℕ → Bool
has_some r a = list_any (λ (p : ℕ × ℕ). p.0 == a) (set.items r)

-- some list of no more than so many numbers holds all to which a is related
pub record RelatesToFew (limit : ℕ) (r : Relation) (a : ℕ) : Type 0 where
  pub others : List ℕ
  pub few : length others ≤ limit
  pub all : (b : ℕ) → has r a b ≡ true → list_any (λ q. q == b) others ≡ true

-- nothing is related to more than so many
abbrev pub IsNarrow : ℕ → Relation → Type 0
IsNarrow limit r = (a : ℕ) → RelatesToFew limit r a

-- the pairs whose first number passes the test
abbrev pub only_firsts : Relation → (ℕ → Bool) → Relation
only_firsts r test = set.retain r (λ (p : ℕ × ℕ). test p.0)

-- Relations that are given by lists of pairs: what they have can be read off the list.
use Rattle.std.proofs.Common.{◌≡◌, ℕ, Bool, true, ◌&&◌, ◌||◌, List, [], ◌∷◌, ◌==◌, refl, sym, ap, ◌∙◌, inl, inr, true≢false}
use Rattle.std.specs.List.{list_any}
use Rattle.std.specs.FinSet as set
use Rattle.std.proofs.lemmas.Bool.{eqb-true, eq-eqb, and_parts, and_from, or_cases, or_left, or_right}
use Rattle.cmh_frames.proofs.Choices.{same_bool}
use Rattle.cmh_frames.specs.Relation.{Relation, has, has_some}
use Rattle.cmh_frames.proofs.Pairs.{has-empty, has-with, has_some-from, has_some-to}

-- the relation with these pairs
abbrev pub pairs : List (ℕ × ℕ) → Relation
pairs xs = set.from_list xs

-- the pair is in the list
abbrev pub listed : List (ℕ × ℕ) → ℕ → ℕ → Bool
listed xs a b = list_any (λ (p : ℕ × ℕ). (a == p.0) && (b == p.1)) xs

-- some pair of the list begins with a
abbrev pub first_listed : List (ℕ × ℕ) → ℕ → Bool
first_listed xs a = list_any (λ (p : ℕ × ℕ). p.0 == a) xs

-- the relation has what is listed
pub has-pairs : (xs : List (ℕ × ℕ)) (a b : ℕ) → has (pairs xs) a b ≡ listed xs a b
has-pairs [] a b = has-empty a b
has-pairs (x ∷ xs) a b = has-with (pairs xs) x.0 x.1 a b ∙ ap (λ z. ((a == x.0) && (b == x.1)) || z) (has-pairs xs a b)

-- what begins a pair has a second number
some_listed : (xs : List (ℕ × ℕ)) (a : ℕ) → first_listed xs a ≡ true → (b : ℕ) × (listed xs a b ≡ true)
some_listed [] a h = absurd (true≢false (sym h))
some_listed (x ∷ xs) a h = elim (or_cases (x.0 == a) (first_listed xs a) h) [
  | inl e ↦ (x.1, or_left ((a == x.0) && (x.1 == x.1)) (listed xs a x.1) (and_from (a == x.0) (x.1 == x.1) (eq-eqb a x.0 (sym (eqb-true x.0 a e))) (eq-eqb x.1 x.1 refl)))
  | inr e ↦ let one = some_listed xs a e in (one.0, or_right ((a == x.0) && (one.0 == x.1)) (listed xs a one.0) one.1)
]

-- a pair begins with its first number
listed_first : (xs : List (ℕ × ℕ)) (a b : ℕ) → listed xs a b ≡ true → first_listed xs a ≡ true
listed_first [] a b h = h
listed_first (x ∷ xs) a b h = elim (or_cases ((a == x.0) && (b == x.1)) (listed xs a b) h) [
  | inl e ↦ or_left (x.0 == a) (first_listed xs a) (eq-eqb x.0 a (sym (eqb-true a x.0 (and_parts (a == x.0) (b == x.1) e).0)))
  | inr e ↦ or_right (x.0 == a) (first_listed xs a) (listed_first xs a b e)
]

-- what is related to anything begins a pair
pub has_some-pairs : (xs : List (ℕ × ℕ)) (a : ℕ) → has_some (pairs xs) a ≡ first_listed xs a
has_some-pairs xs a =
    same_bool (has_some (pairs xs) a) (first_listed xs a)
    (λ h. let one = has_some-to (pairs xs) a h in listed_first xs a one.0 (sym (has-pairs xs a one.0) ∙ one.1))
    (λ h. let one = some_listed xs a h in has_some-from (pairs xs) a one.0 (has-pairs xs a one.0 ∙ one.1))

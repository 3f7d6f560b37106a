-- Ascending lists, with one more and with fewer.
use Rattle.std.proofs.Common.{◌≡◌, ◌≢◌, ℕ, suc, ◌+◌, ◌≤◌, ◌<◌, Bool, true, false, ◌||◌, List, [], ◌∷◌, length, ◌==◌, if◌then◌else◌, refl, sym, ap, ◌∙◌, inl, inr, arith}
use Rattle.std.specs.Prelude.{ltb}
use Rattle.std.specs.List.{AllByRecursion}
use Rattle.std.proofs.lemmas.Bool.{eq-eqb, cases_lt, ltb-true, lt-ltb, true≢false}
use Rattle.cmh_model3.specs.Lists.{IsAscending, in_list, with_each, with_one, without, without_all}
use Rattle.cmh_model3.proofs.Counts.{in_with, not_after, or_yes}

pub neither : (a b : Bool) → (a || b) ≡ false → (a ≡ false) × (b ≡ false)
neither true b h = absurd (true≢false h)
neither false b h = (refl, h)

all_up : (k q : ℕ) (xs : List ℕ) → k < q → AllByRecursion (λ y. q < y) xs → AllByRecursion (λ y. k < y) xs
all_up k q [] l h = tt
all_up k q (x ∷ xs) l h = let m = h.0 in (omega (arith, l, m), all_up k q xs l h.1)

all_one : (q k : ℕ) (xs : List ℕ) → q < k → AllByRecursion (λ y. q < y) xs → AllByRecursion (λ y. q < y) (with_one xs k)
all_one q k [] l h = (l, tt)
all_one q k (x ∷ xs) l h = go (ltb k x) (all_one q k xs l h.1)
  where
    go : (z : Bool) → AllByRecursion (λ y. q < y) (with_one xs k) → AllByRecursion (λ y. q < y) (if z then k ∷ x ∷ xs else x ∷ with_one xs k)
    go true more = (l, h)
    go false more = (h.0, more)

one_ascends : (qs : List ℕ) (k : ℕ) → IsAscending qs → in_list qs k ≡ false → IsAscending (with_one qs k)
one_ascends [] k up out = (tt, tt)
one_ascends (q ∷ qs) k up out = go (ltb k q) refl (one_ascends qs k up.1 (neither (q == k) (in_list qs k) out).1)
  where
    other : q ≢ k
    other e = true≢false (sym (eq-eqb q k e) ∙ (neither (q == k) (in_list qs k) out).0)

    above : ltb k q ≡ false → q < k
    above l = elim (cases_lt q k) [
      | inl less ↦ less
      | inr most ↦ elim (cases_lt k q) [
        | inl less ↦ absurd (true≢false (sym (lt-ltb k q less) ∙ l))
        | inr least ↦ absurd (other (omega (arith, most, least)))
      ]
    ]

    go : (z : Bool) → ltb k q ≡ z → IsAscending (with_one qs k) → IsAscending (if z then k ∷ q ∷ qs else q ∷ with_one qs k)
    go true l more = let low = ltb-true k q l in ((low, all_up k q qs low up.0), up)
    go false l more = (all_one q k qs (above l) up.0, more)

pub each_ascends : (qs ks : List ℕ) → IsAscending qs → IsAscending ks → ((k : ℕ) → in_list ks k ≡ true → in_list qs k ≡ false) → IsAscending (with_each qs ks)
each_ascends qs [] up more apart = up
each_ascends qs (k ∷ ks) up more apart =
    one_ascends (with_each qs ks) k (each_ascends qs ks up more.1 (λ x h. apart x (ap (λ z. (k == x) || z) h ∙ or_yes (k == x))))
    (in_with qs ks k ∙ ap (λ z. z || in_list ks k) (apart k (ap (λ z. z || in_list ks k) (eq-eqb k k refl))) ∙ not_after k ks more.0)

length_one : (qs : List ℕ) (k : ℕ) → length (with_one qs k) ≡ suc (length qs)
length_one [] k = refl
length_one (q ∷ qs) k = go (ltb k q) (length_one qs k)
  where
    go : (z : Bool) → length (with_one qs k) ≡ suc (length qs) → length (if z then k ∷ q ∷ qs else q ∷ with_one qs k) ≡ suc (suc (length qs))
    go true more = refl
    go false more = ap suc more

pub length_each : (qs ks : List ℕ) → length (with_each qs ks) ≡ length qs + length ks
length_each qs [] = omega arith
length_each qs (k ∷ ks) = let one = length_one (with_each qs ks) k in let more = length_each qs ks in omega (arith, one, more)

-- ---- fewer

all_without : (q : ℕ) (xs : List ℕ) (k : ℕ) → AllByRecursion (λ y. q < y) xs → AllByRecursion (λ y. q < y) (without xs k)
all_without q [] k h = tt
all_without q (x ∷ xs) k h = go (x == k) (all_without q xs k h.1)
  where
    go : (z : Bool) → AllByRecursion (λ y. q < y) (without xs k) → AllByRecursion (λ y. q < y) (if z then without xs k else x ∷ without xs k)
    go true more = more
    go false more = (h.0, more)

pub without_ascends : (xs : List ℕ) (k : ℕ) → IsAscending xs → IsAscending (without xs k)
without_ascends [] k up = tt
without_ascends (x ∷ xs) k up = go (x == k) (without_ascends xs k up.1)
  where
    go : (z : Bool) → IsAscending (without xs k) → IsAscending (if z then without xs k else x ∷ without xs k)
    go true more = more
    go false more = (all_without x xs k up.0, more)

pub length_without : (xs : List ℕ) (k : ℕ) → length (without xs k) ≤ length xs
length_without [] k = omega arith
length_without (x ∷ xs) k = go (x == k) (length_without xs k)
  where
    go : (z : Bool) → length (without xs k) ≤ length xs → length (if z then without xs k else x ∷ without xs k) ≤ suc (length xs)
    go true more = omega (arith, more)
    go false more = omega (arith, more)

all_without_all : (q : ℕ) (xs ks : List ℕ) → AllByRecursion (λ y. q < y) xs → AllByRecursion (λ y. q < y) (without_all xs ks)
all_without_all q [] ks h = tt
all_without_all q (x ∷ xs) ks h = go (in_list ks x) (all_without_all q xs ks h.1)
  where
    go : (z : Bool) → AllByRecursion (λ y. q < y) (without_all xs ks) → AllByRecursion (λ y. q < y) (if z then without_all xs ks else x ∷ without_all xs ks)
    go true more = more
    go false more = (h.0, more)

pub without_all_ascends : (xs ks : List ℕ) → IsAscending xs → IsAscending (without_all xs ks)
without_all_ascends [] ks up = tt
without_all_ascends (x ∷ xs) ks up = go (in_list ks x) (without_all_ascends xs ks up.1)
  where
    go : (z : Bool) → IsAscending (without_all xs ks) → IsAscending (if z then without_all xs ks else x ∷ without_all xs ks)
    go true more = more
    go false more = (all_without_all x xs ks up.0, more)

pub length_without_all : (xs ks : List ℕ) → length (without_all xs ks) ≤ length xs
length_without_all [] ks = omega arith
length_without_all (x ∷ xs) ks = go (in_list ks x) (length_without_all xs ks)
  where
    go : (z : Bool) → length (without_all xs ks) ≤ length xs → length (if z then without_all xs ks else x ∷ without_all xs ks) ≤ suc (length xs)
    go true more = omega (arith, more)
    go false more = omega (arith, more)

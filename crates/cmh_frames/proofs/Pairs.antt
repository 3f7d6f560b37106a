-- What a relation has after each change.
use Rattle.std.proofs.Common.{◌≡◌, ℕ, Bool, true, false, not, ◌&&◌, ◌||◌, List, [], ◌∷◌, ◌≢◌, ◌==◌, refl, sym, ap, ◌∙◌, subst, inl, inr, Equal, nat_cmp, is_eq, true≢false}
use Rattle.std.specs.Ordering.{eq_by_cmp}
use Rattle.std.specs.Cmp.{IsTotalOrder, nat_cmp_total, on_total, then_total, both_tied, unsigned_tied}
use Rattle.std.specs.FinSet as set
use Rattle.std.specs.List.{list_any}
use Rattle.std.proofs.Math.Bool.{and-true}
use Rattle.std.proofs.lemmas.Bool.{eqb-true, eq-eqb, ne_eqb, and_parts, and_from, or_cases, cases_eq, cases_Bool, or_left, or_right}
use Rattle.cmh_frames.specs.Relation.{Relation, pair_cmp, has, with_pair, without_pair, with_each, has_some, only_firsts}

-- pairs are totally ordered
pub pair_cmp_total : IsTotalOrder pair_cmp
pair_cmp_total = then_total (on_total (λ (p : ℕ × ℕ). p.0) nat_cmp_total) (on_total (λ (p : ℕ × ℕ). p.1) nat_cmp_total)

-- pairs tie where both numbers are equal
pub same_pair : (x y : ℕ × ℕ) → eq_by_cmp pair_cmp x y ≡ ((x.0 == y.0) && (x.1 == y.1))
same_pair x y = sym (both_tied (x.0 == y.0) (x.1 == y.1) (nat_cmp x.0 y.0) (nat_cmp x.1 y.1) (sym (unsigned_tied x.0 y.0)) (sym (unsigned_tied x.1 y.1)))

-- pairs that tie are one
pub pair_cmp_exact : set.IsAntisymmetric pair_cmp
pair_cmp_exact a b e =
    let both = and_parts (a.0 == b.0) (a.1 == b.1) (sym (same_pair a b) ∙ ap is_eq e) in
    let first = eqb-true a.0 b.0 both.0 in
    let second = eqb-true a.1 b.1 both.1 in
    ap (λ x. (x, a.1)) first ∙ ap (λ y. (b.0, y)) second

-- relations with the same pairs are one
pub same_relation : (r q : Relation) → ((x y : ℕ) → has r x y ≡ has q x y) → r ≡ q
same_relation r q same = set.same_set pair_cmp_total pair_cmp_exact r q (λ p. same p.0 p.1)

-- the empty relation has nothing
pub has-empty : (a b : ℕ) → has set.empty a b ≡ false
has-empty a b = set.contains-empty pair_cmp (a, b)

-- with a pair
pub has-with : (r : Relation) (a b x y : ℕ) → has (with_pair r a b) x y ≡ (((x == a) && (y == b)) || has r x y)
has-with r a b x y = set.contains-insert pair_cmp_total r (a, b) (x, y) ∙ ap (λ z. z || has r x y) (same_pair (x, y) (a, b))

-- without a pair
pub has-without : (r : Relation) (a b x y : ℕ) → has (without_pair r a b) x y ≡ (not ((x == a) && (y == b)) && has r x y)
has-without r a b x y = set.contains-remove pair_cmp_total r (a, b) (x, y) ∙ ap (λ z. not z && has r x y) (same_pair (x, y) (a, b))

-- tied pairs have the same first number
pub first_of_tied : (x y : ℕ) (z : ℕ × ℕ) → pair_cmp (x, y) z ≡ Equal → x ≡ z.0
first_of_tied x y z e = eqb-true x z.0 (and_parts (x == z.0) (y == z.1) (sym (same_pair (x, y) z) ∙ ap is_eq e)).0

-- and the same second one
pub second_of_tied : (x y : ℕ) (z : ℕ × ℕ) → pair_cmp (x, y) z ≡ Equal → y ≡ z.1
second_of_tied x y z e = eqb-true y z.1 (and_parts (x == z.0) (y == z.1) (sym (same_pair (x, y) z) ∙ ap is_eq e)).1

-- with some first numbers alone
pub has-only : (r : Relation) (test : ℕ → Bool) (x y : ℕ) → has (only_firsts r test) x y ≡ (has r x y && test x)
has-only r test x y = set.contains-retain r (λ (p : ℕ × ℕ). test p.0) (x, y) (λ z e. ap test (sym (first_of_tied x y z e)))

-- tests that agree leave the same pairs
pub only-same : (r : Relation) (p q : ℕ → Bool) → ((x : ℕ) → p x ≡ q x) → only_firsts r p ≡ only_firsts r q
only-same r p q same = same_relation _ _ (λ x y. has-only r p x y ∙ ap (λ b. has r x y && b) (same x) ∙ sym (has-only r q x y))

-- a test that all pass leaves all pairs
pub only-all : (r : Relation) (p : ℕ → Bool) → ((x : ℕ) → p x ≡ true) → r ≡ only_firsts r p
only-all r p all = same_relation _ _ (λ x y. sym (has-only r p x y ∙ ap (λ b. has r x y && b) (all x) ∙ and-true (has r x y)))

-- a weaker test passes too
pub any_weaker : {X : Type 0} (p q : X → Bool) (xs : List X) → ((x : X) → p x ≡ true → q x ≡ true) → list_any p xs ≡ true → list_any q xs ≡ true
any_weaker p q [] f h = h
any_weaker p q (x ∷ xs) f h = elim (or_cases (p x) (list_any p xs) h) [
  | inl e ↦ or_left (q x) (list_any q xs) (f x e)
  | inr e ↦ or_right (q x) (list_any q xs) (any_weaker p q xs f e)
]

-- an item that passes, whose every test passes somewhere
one_item : {X : Type 0} (p : X → Bool) (xs : List X) → list_any p xs ≡ true → (x : X) × (p x ≡ true) × ((q : X → Bool) → q x ≡ true → list_any q xs ≡ true)
one_item p [] h = absurd (true≢false (sym h))
one_item p (x ∷ xs) h = elim (or_cases (p x) (list_any p xs) h) [
  | inl e ↦ (x, e, λ q k. or_left (q x) (list_any q xs) k)
  | inr e ↦ let r = one_item p xs e in (r.0, r.1, λ q k. or_right (q x) (list_any q xs) (r.2 q k))
]

-- what has a pair is related to something
pub has_some-from : (r : Relation) (a b : ℕ) → has r a b ≡ true → has_some r a ≡ true
has_some-from r a b h =
    any_weaker (eq_by_cmp pair_cmp (a, b)) (λ (p : ℕ × ℕ). p.0 == a) (set.items r)
    (λ p e. eq-eqb p.0 a (sym (eqb-true a p.0 (and_parts (a == p.0) (b == p.1) (sym (same_pair (a, b) p) ∙ e)).0)))
    (sym (set.contains-items r (a, b)) ∙ h)

-- what is related to something has a pair
pub has_some-to : (r : Relation) (a : ℕ) → has_some r a ≡ true → (b : ℕ) × (has r a b ≡ true)
has_some-to r a h =
    let one = one_item (λ (p : ℕ × ℕ). p.0 == a) (set.items r) h in
    let is : one.0.0 ≡ a = eqb-true one.0.0 a one.1 in
    (one.0.1, set.contains-items r (a, one.0.1) ∙ one.2 (eq_by_cmp pair_cmp (a, one.0.1)) (same_pair (a, one.0.1) one.0 ∙ and_from (a == one.0.0) (one.0.1 == one.0.1) (eq-eqb a one.0.0 (sym is)) (eq-eqb one.0.1 one.0.1 refl)))

-- what is related to nothing has no pair
pub has-none : (r : Relation) (a b : ℕ) → has_some r a ≡ false → has r a b ≡ false
has-none r a b h = elim (cases_Bool (has r a b)) [
  | inl e ↦ absurd (true≢false (sym (has_some-from r a b e) ∙ h))
  | inr e ↦ e
]

-- the pair that was put in
pub has-with_same : (r : Relation) (a b : ℕ) → has (with_pair r a b) a b ≡ true
has-with_same r a b = has-with r a b a b ∙ or_left ((a == a) && (b == b)) (has r a b) (and_from (a == a) (b == b) (eq-eqb a a refl) (eq-eqb b b refl))

-- pairs that were there
pub has-with_kept : (r : Relation) (a b x y : ℕ) → has r x y ≡ true → has (with_pair r a b) x y ≡ true
has-with_kept r a b x y h = has-with r a b x y ∙ or_right ((x == a) && (y == b)) (has r x y) h

-- pairs that differ fail the test
not_both : (a b x y : ℕ) → ((x ≡ a) × (y ≡ b) → ⊥) → ((x == a) && (y == b)) ≡ false
not_both a b x y n = elim (cases_Bool ((x == a) && (y == b))) [
  | inl e ↦ let both = and_parts (x == a) (y == b) e in absurd (n (eqb-true x a both.0, eqb-true y b both.1))
  | inr e ↦ e
]

-- other pairs
pub has-with_other : (r : Relation) (a b x y : ℕ) → ((x ≡ a) × (y ≡ b) → ⊥) → has (with_pair r a b) x y ≡ has r x y
has-with_other r a b x y n = has-with r a b x y ∙ ap (λ z. z || has r x y) (not_both a b x y n)

-- the pair that was taken out
pub has-without_same : (r : Relation) (a b : ℕ) → has (without_pair r a b) a b ≡ false
has-without_same r a b = has-without r a b a b ∙ ap (λ z. not z && has r a b) (and_from (a == a) (b == b) (eq-eqb a a refl) (eq-eqb b b refl))

-- other pairs
pub has-without_other : (r : Relation) (a b x y : ℕ) → ((x ≡ a) × (y ≡ b) → ⊥) → has (without_pair r a b) x y ≡ has r x y
has-without_other r a b x y n = has-without r a b x y ∙ ap (λ z. not z && has r x y) (not_both a b x y n)

-- the pairs of a after pairs of a are put in
pub has-with_each : (r : Relation) (a : ℕ) (bs : List ℕ) (y : ℕ) → has (with_each r a bs) a y ≡ (list_any (λ q. q == y) bs || has r a y)
has-with_each r a [] y = refl
has-with_each r a (b ∷ bs) y = elim (cases_eq y b) [
  | inl e ↦ subst (λ z. has (with_pair (with_each r a bs) a b) a z ≡ (((b == z) || list_any (λ q. q == z) bs) || has r a z)) (sym e)
      (has-with_same (with_each r a bs) a b ∙ sym (or_left ((b == b) || list_any (λ q. q == b) bs) (has r a b) (or_left (b == b) (list_any (λ q. q == b) bs) (eq-eqb b b refl))))
  | inr n ↦ has-with_other (with_each r a bs) a b a y (λ p. n p.1) ∙ has-with_each r a bs y ∙ ap (λ z. (z || list_any (λ q. q == y) bs) || has r a y) (sym (ne_eqb b y (λ e. n (sym e))))
]

-- the pairs of others
pub has-with_each_other : (r : Relation) (a : ℕ) (bs : List ℕ) (x y : ℕ) → (x ≢ a) → has (with_each r a bs) x y ≡ has r x y
has-with_each_other r a [] x y n = refl
has-with_each_other r a (b ∷ bs) x y n = has-with_other (with_each r a bs) a b x y (λ p. n p.0) ∙ has-with_each_other r a bs x y n

-- pairs that were there
pub has-with_each_kept : (r : Relation) (a : ℕ) (bs : List ℕ) (x y : ℕ) → has r x y ≡ true → has (with_each r a bs) x y ≡ true
has-with_each_kept r a [] x y h = h
has-with_each_kept r a (b ∷ bs) x y h = has-with_kept (with_each r a bs) a b x y (has-with_each_kept r a bs x y h)

-- where a wait for h ends, another process waits as before
pub others_wait : (waits : Relation) (a h p : ℕ) → p ≢ a → has_some (without_pair waits a h) p ≡ has_some waits p
others_wait waits a h p other =
    let same = λ (y : ℕ). has-without_other waits a h p y (λ both. other both.0) in
    elim (cases_Bool (has_some waits p)) [
      | inl e ↦ let one = has_some-to waits p e in has_some-from (without_pair waits a h) p one.0 (same one.0 ∙ one.1) ∙ sym e
      | inr e ↦ elim (cases_Bool (has_some (without_pair waits a h) p)) [
        | inl f ↦ let one = has_some-to (without_pair waits a h) p f in absurd (true≢false (sym (has_some-from waits p one.0 (sym (same one.0) ∙ one.1)) ∙ e))
        | inr f ↦ f ∙ sym e
      ]
    ]

-- Pairs in order.
use Rattle.std.proofs.Common.{◌≡◌, ◌<◌, ℕ, suc, zero, List, [], ◌∷◌, ◌==◌, ◌&&◌, Contains, get_or, length, refl, sym, ap, ◌∙◌, subst, inl, inr, true≢false, arith, is_lt, is_eq, Ordering, Less, Equal, Greater}
use Rattle.std.specs.List.{AllByRecursion}
use Rattle.std.specs.List.Sorted.{IsStrictlySortedBy}
use Rattle.std.specs.Cmp.{IsTotalOrder, nat_cmp_total, on_total, then_total, both_tied, unsigned_tied, tied_itself}
use Rattle.std.specs.Ordering.{nat_cmp, eq_by_cmp, ordering_reverse}
use Rattle.std.proofs.lemmas.Bool.{eqb-true, and_parts}
use Rattle.std.proofs.lemmas.Map.Keys.{sorted_head, sorted_tail}
use Rattle.cmh_model3.specs.Lists.{pair_cmp}
use Rattle.cmh_model3.proofs.Pairs.{In}

pair_cmp_total : IsTotalOrder pair_cmp
pair_cmp_total = then_total (on_total (λ (p : ℕ × ℕ). p.0) nat_cmp_total) (on_total (λ (p : ℕ × ℕ). p.1) nat_cmp_total)

tied_pairs : (x y : ℕ × ℕ) → eq_by_cmp pair_cmp x y ≡ ((x.0 == y.0) && (x.1 == y.1))
tied_pairs x y = sym (both_tied (x.0 == y.0) (x.1 == y.1) (nat_cmp x.0 y.0) (nat_cmp x.1 y.1) (sym (unsigned_tied x.0 y.0)) (sym (unsigned_tied x.1 y.1)))

-- pairs that tie are one
tied_is_one : (x y : ℕ × ℕ) → pair_cmp x y ≡ Equal → x ≡ y
tied_is_one x y e =
    let both = and_parts (x.0 == y.0) (x.1 == y.1) (sym (tied_pairs x y) ∙ ap is_eq e) in
    let first = eqb-true x.0 y.0 both.0 in
    let second = eqb-true x.1 y.1 both.1 in
    (λ t. (first t, second t))

pub in_contains : (x : ℕ × ℕ) (xs : List (ℕ × ℕ)) → In x xs → Contains xs x
in_contains x [] h = absurd h
in_contains x (y ∷ ys) (inl e) = (0, omega arith, e)
in_contains x (y ∷ ys) (inr h) = let r = in_contains x ys h in let l = r.1 in (suc r.0, omega (arith, l), r.2)

pub contains_in : (x : ℕ × ℕ) (xs : List (ℕ × ℕ)) → Contains xs x → In x xs
contains_in x xs h = go xs h.0 h.1 h.2
  where
    go : (xs : List (ℕ × ℕ)) (k : ℕ) → k < length xs → get_or xs k x ≡ x → In x xs
    go [] k l e = absurd (omega arith)
    go (y ∷ ys) zero l e = inl e
    go (y ∷ ys) (suc k) l e = inr (go ys k (omega arith) e)

-- the first of a sorted list is below each later member
below_each : (x y : ℕ × ℕ) (xs : List (ℕ × ℕ)) → AllByRecursion (λ z. pair_cmp x z ≡ Less) xs → In y xs → pair_cmp x y ≡ Less
below_each x y [] all h = absurd h
below_each x y (z ∷ zs) all (inl e) = subst (λ w. pair_cmp x w ≡ Less) e all.0
below_each x y (z ∷ zs) all (inr h) = below_each x y zs all.1 h

-- no pair is below itself, and no two are each below the other
pub not_itself : (x : ℕ × ℕ) → pair_cmp x x ≡ Less → ⊥
not_itself x h = true≢false (sym (ap is_lt h) ∙ ap is_lt (tied_itself pair_cmp_total x))

apart : (x y : ℕ × ℕ) → pair_cmp x y ≡ Less → pair_cmp y x ≡ Less → ⊥
apart x y h g = not_itself x (pair_cmp_total.trans x y x h g)

pub head_below : (x y : ℕ × ℕ) (xs : List (ℕ × ℕ)) → IsStrictlySortedBy pair_cmp (x ∷ xs) → In y xs → pair_cmp x y ≡ Less
head_below x y xs up h = below_each x y xs (sorted_head pair_cmp x xs up) h

pub tail_sorted : (x : ℕ × ℕ) (xs : List (ℕ × ℕ)) → IsStrictlySortedBy pair_cmp (x ∷ xs) → IsStrictlySortedBy pair_cmp xs
tail_sorted x xs up = sorted_tail pair_cmp x xs up

-- two lists in order with the same members are equal
pub same_ascending : (xs ys : List (ℕ × ℕ)) → IsStrictlySortedBy pair_cmp xs → IsStrictlySortedBy pair_cmp ys → ((p : ℕ × ℕ) → In p xs → In p ys) → ((p : ℕ × ℕ) → In p ys → In p xs) → xs ≡ ys
same_ascending [] [] a b f g = refl
same_ascending [] (y ∷ ys) a b f g = absurd (g y (inl refl))
same_ascending (x ∷ xs) [] a b f g = absurd (f x (inl refl))
same_ascending (x ∷ xs) (y ∷ ys) a b f g =
    let first = heads (f x (inl refl)) (g y (inl refl)) in
    λ i. first i ∷ same_ascending xs ys (tail_sorted x xs a) (tail_sorted y ys b)
    (λ p h. later p y ys (f p (inr h)) (λ e. not_itself p (subst (λ z. pair_cmp z p ≡ Less) (first ∙ e) (head_below x p xs a h))))
    (λ p h. later p x xs (g p (inr h)) (λ e. not_itself p (subst (λ z. pair_cmp z p ≡ Less) (sym first ∙ e) (head_below y p ys b h)))) i
  where
    heads : In x (y ∷ ys) → In y (x ∷ xs) → x ≡ y
    heads (inl e) h = sym e
    heads (inr h) (inl e) = e
    heads (inr h) (inr k) = absurd (apart x y (head_below x y xs a k) (head_below y x ys b h))

    later : (p q : ℕ × ℕ) (zs : List (ℕ × ℕ)) → In p (q ∷ zs) → (q ≡ p → ⊥) → In p zs
    later p q zs (inl e) n = absurd (n e)
    later p q zs (inr h) n = h

-- ---- a list in order

-- the list with one more pair in its place
abbrev placed : Ordering → ℕ × ℕ → ℕ × ℕ → List (ℕ × ℕ) → List (ℕ × ℕ) → List (ℕ × ℕ)
placed Less x y ys more = x ∷ y ∷ ys
placed Equal x y ys more = y ∷ ys
placed Greater x y ys more = y ∷ more

abbrev put : ℕ × ℕ → List (ℕ × ℕ) → List (ℕ × ℕ)
put x [] = x ∷ []
put x (y ∷ ys) = placed (pair_cmp x y) x y ys (put x ys)

abbrev pub sorted : List (ℕ × ℕ) → List (ℕ × ℕ)
sorted [] = []
sorted (x ∷ xs) = put x (sorted xs)

-- what is in it was there or is the new one
put_from : (x p : ℕ × ℕ) (ys : List (ℕ × ℕ)) → In p (put x ys) → In p (x ∷ ys)
put_from x p [] h = h
put_from x p (y ∷ ys) h = go (pair_cmp x y) h (put_from x p ys)
  where
    go : (o : Ordering) → In p (placed o x y ys (put x ys)) → (In p (put x ys) → In p (x ∷ ys)) → In p (x ∷ y ∷ ys)
    go Less h more = h
    go Equal h more = inr h
    go Greater (inl e) more = inr (inl e)
    go Greater (inr h) more = elim (more h) [ inl e ↦ inl e | inr g ↦ inr (inr g) ]

-- what was there is in it, and so is the new one
put_to : (x p : ℕ × ℕ) (ys : List (ℕ × ℕ)) → In p (x ∷ ys) → In p (put x ys)
put_to x p [] h = h
put_to x p (y ∷ ys) h = go (pair_cmp x y) refl h (put_to x p ys)
  where
    go : (o : Ordering) → pair_cmp x y ≡ o → In p (x ∷ y ∷ ys) → (In p (x ∷ ys) → In p (put x ys)) → In p (placed o x y ys (put x ys))
    go Less is h more = h
    go Equal is (inl e) more = inl (sym (tied_is_one x y is) ∙ e)
    go Equal is (inr h) more = h
    go Greater is (inl e) more = inr (more (inl e))
    go Greater is (inr (inl e)) more = inl e
    go Greater is (inr (inr h)) more = inr (more (inr h))

pub sorted_from : (p : ℕ × ℕ) (xs : List (ℕ × ℕ)) → In p (sorted xs) → In p xs
sorted_from p [] h = h
sorted_from p (x ∷ xs) h = elim (put_from x p (sorted xs) h) [ inl e ↦ inl e | inr m ↦ inr (sorted_from p xs m) ]

pub sorted_to : (p : ℕ × ℕ) (xs : List (ℕ × ℕ)) → In p xs → In p (sorted xs)
sorted_to p [] h = h
sorted_to p (x ∷ xs) (inl e) = put_to x p (sorted xs) (inl e)
sorted_to p (x ∷ xs) (inr m) = put_to x p (sorted xs) (inr (sorted_to p xs m))

-- what is below each member is below all
all_below : (x : ℕ × ℕ) (ys : List (ℕ × ℕ)) → ((p : ℕ × ℕ) → In p ys → pair_cmp x p ≡ Less) → AllByRecursion (λ y. pair_cmp x y ≡ Less) ys
all_below x [] each = tt
all_below x (y ∷ ys) each = (each y (inl refl), all_below x ys (λ p h. each p (inr h)))

sorted_cons : (x : ℕ × ℕ) (xs : List (ℕ × ℕ)) → AllByRecursion (λ y. pair_cmp x y ≡ Less) xs → IsStrictlySortedBy pair_cmp xs → IsStrictlySortedBy pair_cmp (x ∷ xs)
unfolding IsStrictlySortedBy
sorted_cons x xs a b = (a, b)

sorted_nil : IsStrictlySortedBy pair_cmp []
unfolding IsStrictlySortedBy
sorted_nil = tt

pub sorted_one : (x : ℕ × ℕ) → IsStrictlySortedBy pair_cmp (x ∷ [])
sorted_one x = sorted_cons x [] tt sorted_nil

put_sorted : (x : ℕ × ℕ) (ys : List (ℕ × ℕ)) → IsStrictlySortedBy pair_cmp ys → IsStrictlySortedBy pair_cmp (put x ys)
put_sorted x [] up = sorted_one x
put_sorted x (y ∷ ys) up = go (pair_cmp x y) refl (put_sorted x ys (tail_sorted y ys up))
  where
    go : (o : Ordering) → pair_cmp x y ≡ o → IsStrictlySortedBy pair_cmp (put x ys) → IsStrictlySortedBy pair_cmp (placed o x y ys (put x ys))
    go Less is more = sorted_cons x (y ∷ ys) (is, all_below x ys (λ p h. pair_cmp_total.trans x y p is (head_below y p ys up h))) up
    go Equal is more = up
    go Greater is more =
        let less : pair_cmp y x ≡ Less = pair_cmp_total.antisymm y x ∙ ap ordering_reverse is in
        sorted_cons y (put x ys)
        (all_below y (put x ys) (λ p h. elim (put_from x p ys h) [ inl e ↦ subst (λ z. pair_cmp y z ≡ Less) e less | inr old ↦ head_below y p ys up old ]))
        more

pub sorted_sorted : (xs : List (ℕ × ℕ)) → IsStrictlySortedBy pair_cmp (sorted xs)
sorted_sorted [] = sorted_nil
sorted_sorted (x ∷ xs) = put_sorted x (sorted xs) (sorted_sorted xs)

-- Ascending lists of numbers.
use Rattle.std.proofs.Common.{◌≡◌, ℕ, suc, zero, ◌<◌, Bool, true, false, ◌||◌, ◌==◌, List, [], ◌∷◌, length, get_or, take, refl, sym, ap, ◌∙◌, inl, inr, arith, true≢false}
use Rattle.std.specs.List.{AllByRecursion}
use Rattle.std.proofs.lemmas.Bool.{eq-eqb, ne_eqb, cases_eq}
use Rattle.cmh_model3.specs.Lists.{IsAscending, in_list}
use Rattle.cmh_model3.proofs.Counts.{not_after}

-- ---- at a place

pub at_in : (ms : List ℕ) (i p : ℕ) → i < length ms → get_or ms i 0 ≡ p → in_list ms p ≡ true
at_in [] i p inside at = absurd (omega (arith, inside))
at_in (m ∷ ms) zero p inside at = ap (λ b. b || in_list ms p) (eq-eqb m p at)
at_in (m ∷ ms) (suc i) p inside at = ap (λ b. (m == p) || b) (at_in ms i p (omega (arith, inside)) at) ∙ or_yes (m == p)
  where
    or_yes : (b : Bool) → (b || true) ≡ true
    or_yes true = refl
    or_yes false = refl

pub in_at : (ms : List ℕ) (p : ℕ) → in_list ms p ≡ true → (i : ℕ) × (i < length ms) × (get_or ms i 0 ≡ p)
in_at [] p h = absurd (true≢false (sym h))
in_at (m ∷ ms) p h = elim (cases_eq m p) [
  | inl e ↦ (0, omega arith, e)
  | inr n ↦ let later = in_at ms p (sym (ap (λ b. b || in_list ms p) (ne_eqb m p n)) ∙ h) in (suc later.0, let below = later.1 in omega (arith, below), later.2)
]

-- ---- in order

-- what is in the list is above all that is below the list
pub in_above : (x y : ℕ) (ys : List ℕ) → AllByRecursion (λ k. x < k) ys → in_list ys y ≡ true → x < y
in_above x y [] above h = absurd (true≢false (sym h))
in_above x y (z ∷ ys) above h = elim (cases_eq z y) [
  | inl e ↦ let low = above.0 in omega (arith, e, low)
  | inr n ↦ in_above x y ys above.1 (sym (ap (λ b. b || in_list ys y) (ne_eqb z y n)) ∙ h)
]

in_first : (x : ℕ) (xs : List ℕ) → in_list (x ∷ xs) x ≡ true
in_first x xs = ap (λ b. b || in_list xs x) (eq-eqb x x refl)

-- two ascending lists with the same members are equal
pub same_ascending : (xs ys : List ℕ) → IsAscending xs → IsAscending ys → ((k : ℕ) → in_list xs k ≡ in_list ys k) → xs ≡ ys
same_ascending [] [] a b same = refl
same_ascending [] (y ∷ ys) a b same = absurd (true≢false (sym (in_first y ys) ∙ sym (same y)))
same_ascending (x ∷ xs) [] a b same = absurd (true≢false (sym (in_first x xs) ∙ same x))
same_ascending (x ∷ xs) (y ∷ ys) a b same =
    let first : x ≡ y = elim (cases_eq x y) [
      | inl e ↦ e
      | inr n ↦
          let right : in_list ys x ≡ true = sym (ap (λ b. b || in_list ys x) (ne_eqb y x (λ e. n (sym e)))) ∙ sym (same x) ∙ in_first x xs in
          let left : in_list xs y ≡ true = sym (ap (λ b. b || in_list xs y) (ne_eqb x y n)) ∙ same y ∙ in_first y ys in
          let up = in_above y x ys b.0 right in
          let down = in_above x y xs a.0 left in
          omega (arith, up, down)
    ] in
    let rest : (k : ℕ) → in_list xs k ≡ in_list ys k = λ k. elim (cases_eq x k) [
      | inl e ↦ not_after k xs (moved x k xs e a.0) ∙ sym (not_after k ys (moved y k ys (sym first ∙ e) b.0))
      | inr n ↦ sym (ap (λ b. b || in_list xs k) (ne_eqb x k n)) ∙ same k ∙ ap (λ b. b || in_list ys k) (ne_eqb y k (λ e. n (first ∙ e)))
    ] in
    λ i. first i ∷ same_ascending xs ys a.1 b.1 rest i
  where
    moved : (x k : ℕ) (xs : List ℕ) → x ≡ k → AllByRecursion (λ y. x < y) xs → AllByRecursion (λ y. k < y) xs
    moved x k [] e h = tt
    moved x k (z ∷ zs) e h = let low = h.0 in (omega (arith, e, low), moved x k zs e h.1)

-- none is before itself
pub not_before : (xs : List ℕ) (i : ℕ) → IsAscending xs → i < length xs → in_list (take i xs) (get_or xs i 0) ≡ false
not_before [] i up inside = absurd (omega (arith, inside))
not_before (x ∷ xs) zero up inside = refl
not_before (x ∷ xs) (suc i) up inside =
    let within : i < length xs = omega (arith, inside) in
    let later = at_above x xs i up.0 within in
    ap (λ b. b || in_list (take i xs) (get_or xs i 0)) (ne_eqb x (get_or xs i 0) (λ e. absurd (omega (arith, e, later)))) ∙ not_before xs i up.1 within
  where
    at_above : (x : ℕ) (xs : List ℕ) (i : ℕ) → AllByRecursion (λ y. x < y) xs → i < length xs → x < get_or xs i 0
    at_above x [] i above inside = absurd (omega (arith, inside))
    at_above x (y ∷ ys) zero above inside = above.0
    at_above x (y ∷ ys) (suc i) above inside = at_above x ys i above.1 (omega (arith, inside))

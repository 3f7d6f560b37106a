-- Whom a relation pairs a process with, where those at its site and the others are found apart.
use Rattle.std.proofs.Common.{inl, inr, ◌≡◌, ◌↔◌, ℕ, Bool, true, false, ◌||◌, ◌==◌, List, sym, ◌∙◌, Contains, Result, Ok, Err, IfOk, Vec}
use Rattle.std.specs.List.{list_any}
use Rattle.std.proofs.lemmas.Bool.{cases_Bool, or_cases, or_left, or_right}
use Rattle.cmh_frames.proofs.Members.{found_at, found_from}

abbrev pub is_found : List ℕ → ℕ → Bool
is_found xs k = list_any (λ q. q == k) xs

module _ (xs ys : List ℕ) (related here : ℕ → Bool) (mine : (k : ℕ) → Contains xs k ↔ ((related k ≡ true) × (here k ≡ true))) (others : (k : ℕ) → Contains ys k ↔ ((related k ≡ true) × (here k ≡ false))) where
  found : (k : ℕ) → related k ≡ true → (is_found xs k || is_found ys k) ≡ true
  found k is = elim (cases_Bool (here k)) [
    | inl h ↦ or_left (is_found xs k) (is_found ys k) (found_from xs k ((mine k).1 (is, h)))
    | inr h ↦ or_right (is_found xs k) (is_found ys k) (found_from ys k ((others k).1 (is, h)))
  ]

  kept : (k : ℕ) → (is_found xs k || is_found ys k) ≡ true → related k ≡ true
  kept k is = elim (or_cases (is_found xs k) (is_found ys k) is) [
    | inl h ↦ ((mine k).0 (found_at xs k h)).0
    | inr h ↦ ((others k).0 (found_at ys k h)).0
  ]

  pub of_both : {A E : Type 0} (r : Result (Vec ℕ A) E) → IfOk r (λ both. (p : ℕ) → is_found both.items p ≡ (is_found xs p || is_found ys p))
      → (shown : ℕ → Bool) → ((k : ℕ) → shown k ≡ related k) → IfOk r (λ both. (k : ℕ) → Contains both.items k ↔ (shown k ≡ true))
  of_both (Ok both) all shown same = λ k. (
    λ c. same k ∙ kept k (sym (all k) ∙ found_from both.items k c),
    λ is. found_at both.items k (all k ∙ found k (sym (same k) ∙ is)),
  )
  of_both (Err f) all shown same = tt

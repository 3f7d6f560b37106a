-- Where members stand, by a table of their numbers.
use Rattle.std.proofs.Common.{◌≡◌, ◌≢◌, ◌<◌, ◌≤◌, ◌+◌, ℕ, false, ◌==◌, List, length, get_or, cond, sym, ap, ◌∙◌, subst, inl, inr, arith}
use Rattle.std.specs.List.Sorted.{IsStrictlyIncreasing}
use Rattle.std.proofs.lemmas.Bool.{cases_eq, ne_eqb, false_from_ne_true}
use Rattle.cmh_model3.specs.Lists.{in_list}
use Rattle.cmh_waits3.specs.Inner.Places.{ArePlaced}
use Rattle.cmh_waits3.proofs.Lists.{in_at}
use Rattle.cmh_waits3.proofs.Members.{same_place}

module _ (ms places : List ℕ) (are : ArePlaced ms places) (p : ℕ) where
  -- after the end of the table there is no member
  pub none_past : length places ≤ p → in_list ms p ≡ false
  none_past past = false_from_ne_true (in_list ms p) (λ h.
      let at = in_at ms p h in
      let inside = are.long at.0 at.1 in
      let is = at.2 in
      absurd (omega (arith, inside, is, past)))

  -- nor where another process stands at the place that is told, or nobody
  pub none_there : (i : ℕ) → i ≡ get_or places p 0 → (i < length ms → get_or ms i 0 ≡ p → ⊥) → in_list ms p ≡ false
  none_there i told other = false_from_ne_true (in_list ms p) (λ h.
      let at = in_at ms p h in
      let same : at.0 ≡ i = sym (told ∙ ap (λ q. get_or places q 0) (sym at.2) ∙ are.placed at.0 at.1) in
      other (subst (λ k. k < length ms) same at.1) (ap (λ k. get_or ms k 0) (sym same) ∙ at.2))

-- the members before a place stand in the table
abbrev pub ArePlacedBelow : List ℕ → List ℕ → ℕ → Type 0
ArePlacedBelow ms places i = (j : ℕ) → j < i → (get_or ms j 0 < length places) × (get_or places (get_or ms j 0) 0 ≡ j)

-- one member more
pub one_placed : (ms places new : List ℕ) (i x : ℕ) → IsStrictlyIncreasing ms → i < length ms → get_or ms i 0 ≡ x
    → get_or new x 0 ≡ i → x < length new
    → ((p : ℕ) → p < length places → (p < length new) × (get_or new p 0 ≡ cond (x == p) i (get_or places p 0)))
    → ArePlacedBelow ms places i → ArePlacedBelow ms new (i + 1)
one_placed ms places new i x up inside is here long others so_far j below = elim (cases_eq j i) [
  | inl e ↦
      let same : get_or ms j 0 ≡ x = ap (λ k. get_or ms k 0) e ∙ is in
      (subst (λ q. q < length new) (sym same) long, ap (λ q. get_or new q 0) same ∙ here ∙ sym e)
  | inr n ↦
      let before = so_far j (omega (arith, below, n)) in
      let still = others (get_or ms j 0) before.0 in
      let other : x ≢ get_or ms j 0 = λ e. n (same_place ms up j i (omega (arith, below, n, inside)) inside (sym e ∙ sym is)) in
      (still.0, still.1 ∙ ap (λ b. cond b i (get_or places (get_or ms j 0) 0)) (ne_eqb x (get_or ms j 0) other) ∙ before.1)
]

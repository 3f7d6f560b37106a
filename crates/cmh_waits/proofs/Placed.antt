-- Where members stand, by a table of their numbers.
use Rattle.std.proofs.Common.{◌≡◌, ◌<◌, ◌≤◌, ◌+◌, ℕ, false, ◌==◌, List, length, get_or, cond, sym, ap, ◌∙◌, inl, inr, arith}
use Rattle.std.specs.List.Sorted.{IsStrictlyIncreasing}
use Rattle.std.proofs.lemmas.Bool.{cases_eq, eq-eqb, ne_eqb, false_from_ne_true}
use Rattle.std.proofs.lemmas.List.{get_or_past}
use Rattle.cmh_waits.specs.Places.{ArePlaced}
use Rattle.cmh_waits.specs.Rows.{is_in}
use Rattle.cmh_waits.proofs.RowLemmas.{found_place, rising}

module _ (ms places : List ℕ) (are : ArePlaced ms places) (p : ℕ) where
  at_number : (i : ℕ) → i < length ms → get_or ms i 0 ≡ p → get_or places p 255 ≡ i
  at_number i inside is = ap (λ q. get_or places q 255) (sym is) ∙ are.placed i inside

  -- after the end of the table there is no member
  pub none_past : length places ≤ p → is_in ms p ≡ false
  none_past past = false_from_ne_true (is_in ms p) (λ h.
      let at = found_place ms p h in
      let inside = at.1 in
      let few = are.few in
      let nowhere = get_or_past places p 255 past in
      let place = at_number at.0 at.1 at.2 in
      omega (arith, inside, few, nowhere, place))

  -- nor where another process stands at the place that is told, or nobody
  pub none_there : (i : ℕ) → i ≡ get_or places p 255 → (i < length ms → get_or ms i 0 ≡ p → ⊥) → is_in ms p ≡ false
  none_there i told other = false_from_ne_true (is_in ms p) (λ h.
      let at = found_place ms p h in
      let same : at.0 ≡ i = sym (told ∙ at_number at.0 at.1 at.2) in
      let inside = at.1 in
      other (omega (arith, inside, same)) (ap (λ k. get_or ms k 0) (sym same) ∙ at.2))

-- one member more
pub one_placed : (ms places new : List ℕ) (i : ℕ) → IsStrictlyIncreasing ms → i < length ms
    → ((p : ℕ) → get_or new p 255 ≡ cond (get_or ms i 0 == p) i (get_or places p 255))
    → ((j : ℕ) → j < i → get_or places (get_or ms j 0) 255 ≡ j) → (j : ℕ) → j < i + 1 → get_or new (get_or ms j 0) 255 ≡ j
one_placed ms places new i up inside puts so_far j below = elim (cases_eq j i) [
  | inl e ↦ puts (get_or ms j 0) ∙ ap (λ b. cond b i (get_or places (get_or ms j 0) 255)) (eq-eqb (get_or ms i 0) (get_or ms j 0) (ap (λ k. get_or ms k 0) (sym e))) ∙ sym e
  | inr n ↦
      let less : j < i = omega (arith, below, n) in
      let rise = rising ms up j i less inside in
      puts (get_or ms j 0) ∙ ap (λ b. cond b i (get_or places (get_or ms j 0) 255)) (ne_eqb (get_or ms i 0) (get_or ms j 0) (λ e. omega (arith, rise, e))) ∙ so_far j less
]

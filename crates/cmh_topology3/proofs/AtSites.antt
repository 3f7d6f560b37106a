-- The site of a process as a number.
use Rattle.std.proofs.Common.{◌≡◌, ◌↔◌, ◌⊎◌, ℕ, ◌≤◌, Bool, true, List, ◌==◌, Option, None, Some, unwrap_or, refl, sym, ap, ◌∙◌, inl, inr, arith}
use Rattle.std.specs.List.{list_any}
use Rattle.std.proofs.lemmas.Bool.{cases_eq, eq-eqb, ne_eqb, false_from_ne_true}
use Rattle.cmh_frames.specs.Topology.{home_in}
use Rattle.cmh_frames.specs.Inner.Kept.{members_in}
use Rattle.cmh_frames.proofs.Apart.{some_same}

cases_home : (home : Option ℕ) → (home ≡ None) ⊎ ((s : ℕ) × (home ≡ Some s))
cases_home None = inl refl
cases_home (Some s) = inr (s, refl)

-- the test of a home by its number
by_number : (home : Option ℕ) (s : ℕ) (b : Bool) → 1 ≤ s → (b ≡ true) ↔ (home ≡ Some s) → b ≡ (unwrap_or home 0 == s)
by_number home s b site here = elim (cases_home home) [
  | inl none ↦
      false_from_ne_true b (λ h. none_some s (sym none ∙ here.0 h))
      ∙ sym (ap (λ o. unwrap_or o 0 == s) none ∙ ne_eqb 0 s (λ e. absurd (omega (arith, e, site))))
  | inr some ↦ elim (cases_eq some.0 s) [
    | inl e ↦ here.1 (some.1 ∙ ap Some e) ∙ sym (ap (λ o. unwrap_or o 0 == s) some.1 ∙ eq-eqb some.0 s e)
    | inr n ↦ false_from_ne_true b (λ h. n (some_same (sym some.1 ∙ here.0 h))) ∙ sym (ap (λ o. unwrap_or o 0 == s) some.1 ∙ ne_eqb some.0 s n)
  ]
]
  where
    none_some : (x : ℕ) → None ≡ Some x → ⊥
    none_some x e = cc

pub at_site : (rows : List (ℕ × List ℕ)) (s p : ℕ) → 1 ≤ s → (list_any (λ q. q == p) (members_in rows s) ≡ true) ↔ (home_in rows p ≡ Some s)
    → list_any (λ q. q == p) (members_in rows s) ≡ (unwrap_or (home_in rows p) 0 == s)
at_site rows s p site here = by_number (home_in rows p) s _ site here

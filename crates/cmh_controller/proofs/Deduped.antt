-- `dedup` loses nothing that a test finds.
use Rattle.std.proofs.Common.{inl, inr, ◌≡◌, Bool, true, false, cond, ◌||◌, List, [], ◌∷◌, refl, ap, ◌∙◌}
use Rattle.std.specs.List.{list_any, dedup, dedup_from}
use Rattle.std.proofs.lemmas.Bool.{cases_Bool}

or_again : (a b c : Bool) → b ≡ a → (a || c) ≡ (a || (b || c))
or_again true b c e = refl
or_again false b c e = rw e refl

-- where those that count as the same pass it alike
module _ {X : Type 0} (same : X → X → Bool) (t : X → Bool) (alike : (x y : X) → same x y ≡ true → t x ≡ t y) where
  any-dedup_from : (x : X) (ys : List X) → list_any t (dedup_from same x ys) ≡ (t x || list_any t ys)
  any-dedup_from x [] = refl
  any-dedup_from x (y ∷ ys) = elim (cases_Bool (same y x)) [
    | inl e ↦ ap (λ b. list_any t (cond b (dedup_from same x ys) (x ∷ dedup_from same y ys))) e ∙ any-dedup_from x ys ∙ or_again (t x) (t y) (list_any t ys) (alike y x e)
    | inr e ↦ ap (λ b. list_any t (cond b (dedup_from same x ys) (x ∷ dedup_from same y ys))) e ∙ ap (λ b. t x || b) (any-dedup_from y ys)
  ]

  pub any-dedup : (ys : List X) → list_any t (dedup same ys) ≡ list_any t ys
  any-dedup [] = refl
  any-dedup (y ∷ ys) = any-dedup_from y ys

-- Beginnings of two lists, one after the other.
use Rattle.std.proofs.Common.{◌≡◌, List, [], ◌∷◌, ◌++◌, refl, sym, ap, ◌∙◌}

-- a beginning of two lists is one of the first, or all of the first and a beginning of the second
pub data Fronts {X : Type 0} (l xs ys : List X) : Type 0 where
  Within : (rest : List X) → l ++ rest ≡ xs → Fronts l xs ys
  Past : (more rest : List X) → xs ++ more ≡ l → more ++ rest ≡ ys → Fronts l xs ys

pub front : {X : Type 0} (l xs ys rest : List X) → l ++ rest ≡ xs ++ ys → Fronts l xs ys
front l [] ys rest h = Past l rest refl h
front [] (x ∷ xs) ys rest h = Within (x ∷ xs) refl
front (y ∷ l) (x ∷ xs) ys rest h = go (front l xs ys rest (cc h)) (cc h)
  where
    go : Fronts l xs ys → y ≡ x → Fronts (y ∷ l) (x ∷ xs) ys
    go (Within q e) s = Within q (ap (λ z. z ∷ (l ++ q)) s ∙ ap (λ t. x ∷ t) e)
    go (Past m q e f) s = Past m q (ap (λ z. z ∷ (xs ++ m)) (sym s) ∙ ap (λ t. y ∷ t) e) f

-- The steps of a cycle, member by member and as pairs.
use Rattle.std.proofs.Common.{◌≡◌, ℕ, Bool, false, true, ◌&&◌, ◌||◌, ◌==◌, List, [], ◌∷◌, refl, ap}
use Rattle.cmh_draw.specs.Inner.Steps.{steps, has_step}

no_step : (b : Bool) → ((b && false) || false) ≡ false
no_step true = refl
no_step false = refl

pub steps_are : (j k : ℕ) (members : List ℕ) → steps j k members ≡ has_step j k members
steps_are j k [] = refl
steps_are j k (x ∷ []) = no_step (x == j)
steps_are j k (x ∷ y ∷ members) = ap (λ b. ((x == j) && (y == k)) || b) (steps_are j k (y ∷ members))

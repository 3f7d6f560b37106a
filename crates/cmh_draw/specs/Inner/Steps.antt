-- A step of a cycle, as a search for it takes the cycle: member by member.
use Rattle.std.specs.Prelude.{ℕ, Bool, false, ◌&&◌, ◌||◌, ◌==◌, List, [], ◌∷◌, drop, zip}
use Rattle.std.specs.List.{list_any}

abbrev pub begins_with : ℕ → List ℕ → Bool
begins_with k [] = false
begins_with k (x ∷ xs) = x == k

-- somewhere among the members j stands right before k
abbrev pub steps : ℕ → ℕ → List ℕ → Bool
steps j k [] = false
steps j k (x ∷ xs) = ((x == j) && begins_with k xs) || steps j k xs

abbrev pub has_step : ℕ → ℕ → List ℕ → Bool
has_step j k members = list_any (λ step. (step.0 == j) && (step.1 == k)) (zip members (drop 1 members))

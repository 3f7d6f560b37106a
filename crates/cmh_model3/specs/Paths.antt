-- Paths of waits, and the paths that stay at one site.
use Rattle.std.specs.Prelude.{◌≡◌, ℕ, true, List, [], ◌∷◌}
use Rattle.cmh_model3.specs.State.{State, counts}

-- Each of p and the further members is in W to the next one, and the last is q.
abbrev pub IsPath : (ℕ → ℕ → Type 0) → ℕ → List ℕ → ℕ → Type 0
IsPath W p [] q = p ≡ q
IsPath W p (x ∷ xs) q = W p x × IsPath W x xs q

module _ (home : ℕ → ℕ) where
  -- a path of waits that count for the ask of i with stamp n, to processes of site s
  abbrev pub IsLocalPath : ℕ → State → ℕ → ℕ → ℕ → List ℕ → ℕ → Type 0
  IsLocalPath s v n i p [] q = p ≡ q
  IsLocalPath s v n i p (x ∷ xs) q = (counts v n i p x ≡ true) × (home x ≡ s) × IsLocalPath s v n i x xs q

  -- p reaches q locally: such a path of no or more waits leads from p to q
  abbrev pub ReachesLocally : ℕ → State → ℕ → ℕ → ℕ → ℕ → Type 0
  ReachesLocally s v n i p q = (members : List ℕ) × IsLocalPath s v n i p members q

  -- i is locally dependent upon itself: such a path of one or more waits leads from i to i
  abbrev pub DependsOnItself : ℕ → State → ℕ → ℕ → Type 0
  DependsOnItself s v n i = (next : ℕ) × (members : List ℕ) × IsLocalPath s v n i i (next ∷ members) i

-- What the members of a list give, one after the other.
use Rattle.std.specs.Prelude.{ℕ, ◌+◌, ◌==◌, if◌then◌else◌, List, [], ◌∷◌, ◌++◌}

-- each member gives a list, by its number; the first has this one
abbrev pub each_from : {X Y : Type 0} → (ℕ → X → List Y) → ℕ → List X → List Y
each_from f n [] = []
each_from f n (x ∷ xs) = f n x ++ each_from f (n + 1) xs

-- the number of the first that is x, where the first of all has the number n; 0 where none is
abbrev pub number_from : ℕ → List ℕ → ℕ → ℕ
number_from n [] x = 0
number_from n (y ∷ ys) x = if y == x then n else number_from (n + 1) ys x

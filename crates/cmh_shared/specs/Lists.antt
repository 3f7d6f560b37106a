-- Lists of at most 64 processes, and one more at the end where there is room.
use Rattle.std.specs.Prelude.{ℕ, nat_lt, cond, List, [], ◌∷◌, ◌++◌, length}

abbrev pub added : List ℕ → ℕ → List ℕ
added xs x = cond (nat_lt (length xs) 64) (xs ++ x ∷ []) xs

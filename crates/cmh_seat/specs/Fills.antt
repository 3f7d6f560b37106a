-- What is written to a caller's memory.
use Rattle.std.specs.Prelude.{◌≡◌, ℕ, List, ◌++◌, length, drop}

-- the text stands in the first bytes of what was lent, the others are as they were, and the count is the text's length
abbrev pub Fills : List ℕ → List ℕ → List ℕ → ℕ → Type 0
Fills text before after count = (after ≡ text ++ drop count before) × (count ≡ length text)

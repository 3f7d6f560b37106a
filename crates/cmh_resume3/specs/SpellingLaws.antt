-- Spelling and reading are one-to-one.
use Rattle.std.specs.Prelude.{◌≡◌, ℕ, List, ◌++◌}

-- A value has one spelling, no spelling begins another, and none is that of two values.
abbrev pub OneSpelling : {X : Type 0} → (X → Type 0) → (X → List ℕ) → Type 0
OneSpelling {X} IsOne spelled = (x y : X) (r s : List ℕ) → IsOne x → IsOne y → spelled x ++ r ≡ spelled y ++ s → (x ≡ y) × (r ≡ s)

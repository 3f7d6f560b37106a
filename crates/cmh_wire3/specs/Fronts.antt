-- What bytes begin with: the spelling of a value of some kind and the bytes after it, or of none.
use Rattle.std.specs.Prelude.{◌≡◌, ◌≢◌, ℕ, List, ◌++◌, Option, None, Some}

-- the bytes are the spelling of a value of the kind, and the rest after it
pub record Begins {X : Type 0} (IsOne : X → Type 0) (spelled : X → List ℕ) (bytes : List ℕ)
    (x : X) (rest : List ℕ) : Type 0 where
  pub is_one : IsOne x
  pub bytes_are : bytes ≡ spelled x ++ rest

-- no spelling of a value of the kind begins the bytes
abbrev pub BeginsNone : {X : Type 0} → (X → Type 0) → (X → List ℕ) → List ℕ → Type 0
BeginsNone {X} IsOne spelled bytes = (x : X) (rest : List ℕ) → IsOne x → bytes ≢ spelled x ++ rest

-- Reading the bytes gave this value and left the rest; or none, where none begins them.
abbrev pub Reads : {X : Type 0} → (X → Type 0) → (X → List ℕ) → List ℕ → List ℕ → Option X → Type 0
Reads IsOne spelled bytes rest None = BeginsNone IsOne spelled bytes
Reads IsOne spelled bytes rest (Some x) = Begins IsOne spelled bytes x rest

-- What a command reads from and writes to, each of which may fail.
use Rattle.std.specs.Prelude.{◌≡◌, ℕ, Bool, true, ◌⊎◌, List, Option}
use Rattle.std.specs.Io.KnownBytes.{Appends}

-- a reader; the bytes that are left to be read, where that is told; whether a read failed; and how many of the bytes end
-- with a line feed, as far as is known
pub record Reading (R : Type 0) : Type 0 where
  pub inner : R
  pub left : Option (List ℕ)
  pub has_failed : Bool
  pub fed : ℕ

-- a writer; what was written, where that is told; whether a write failed; and whether all of it was flushed
pub record Writing (W : Type 0) : Type 0 where
  pub inner : W
  pub written : Option (List ℕ)
  pub has_failed : Bool
  pub is_flushed : Bool

-- the text was written, unless the writer failed
abbrev pub Tells : Option (List ℕ) → Option (List ℕ) → Bool → List ℕ → Type 0
Tells old new has_failed text = (has_failed ≡ true) ⊎ Appends old new text

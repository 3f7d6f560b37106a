-- The mark of bytes, by which two sites find that they know other bytes: a number of 64 bits (Fowler, Noll and Vo, 1a).
use Rattle.std.specs.Prelude.{◌≡◌, ℕ, ◌*◌, ◌^◌, ◌%◌, ◌<◌, List, [], ◌∷◌, ◌++◌}
use Rattle.std.specs.List.{AllByRecursion}
use Rattle.std.specs.Int.Bits.{bit_xor}

-- the mark of no bytes
abbrev pub first_mark : ℕ
first_mark = 14695981039346656037

-- the mark with one byte more
unfoldable pub mark_step : ℕ → ℕ → ℕ
mark_step mark byte = (bit_xor mark byte * 1099511628211) % 2 ^ 64

-- the mark with these bytes more
abbrev pub mark_on : ℕ → List ℕ → ℕ
mark_on mark [] = mark
mark_on mark (byte ∷ bytes) = mark_on (mark_step mark byte) bytes

-- the mark of bytes
abbrev pub mark_of : List ℕ → ℕ
mark_of bytes = mark_on first_mark bytes

-- A byte that is changed changes the mark, whatever stands before it and behind it.
abbrev pub ChangedByteShows : Type 0
ChangedByteShows = (before behind : List ℕ) (x y : ℕ) → x < 256 → y < 256 → AllByRecursion (λ b. b < 256) behind
    → mark_of (before ++ x ∷ behind) ≡ mark_of (before ++ y ∷ behind) → x ≡ y

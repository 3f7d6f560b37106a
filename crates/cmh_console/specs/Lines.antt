-- Lines of a script.
use Rattle.std.specs.Prelude.{◌≡◌, ℕ, ◌-◌, ◌^◌, ◌<◌, ◌≤◌, ◌==◌, Bool, true, false, ◌⊎◌, List, [], ◌∷◌, ◌++◌, length, take, IfSome, Option, Some, ⊤}
use Rattle.std.specs.Io.BufRead.{first_line}
use Rattle.cmh_console.specs.declared.device.Piece.{Piece}
use Rattle.cmh_console.specs.declared.device.Piece.TheVariants.{Fed, Unfed, End as End_piece}
use Rattle.cmh_console.specs.declared.lines.NextLine.{NextLine}
use Rattle.cmh_console.specs.declared.lines.NextLine.TheVariants.{Line as Read, TooLong, End}
use Rattle.cmh_console.specs.declared.lines.LineFault.{LineFault}
use Rattle.cmh_console.specs.declared.lines.LineFault.TheVariants.{Input, Memory}

-- no byte is a line feed
abbrev pub NoFeed : List ℕ → Type 0
NoFeed [] = ⊤
NoFeed (b ∷ bs) = ((b == 10) ≡ false) × NoFeed bs

-- Of these bytes a piece was read and `left` is left: some with no line feed, and after them a line feed, or the end
-- of what stood ready. What has room of them stands after the line.
abbrev pub IsPiece : ℕ → List ℕ → List ℕ → List ℕ → Piece → Option (List ℕ) → Type 0
IsPiece most bytes old new Fed left = (seen : List ℕ) × (rest : List ℕ) × NoFeed seen
    × (bytes ≡ seen ++ 10 ∷ rest) × (left ≡ Some rest) × (new ≡ old ++ take (most - length old) seen)
IsPiece most bytes old new Unfed left = (seen : List ℕ) × (rest : List ℕ) × NoFeed seen × (0 < length seen)
    × (bytes ≡ seen ++ rest) × (left ≡ Some rest) × (new ≡ old ++ take (most - length old) seen)
IsPiece most bytes old new End_piece left = (bytes ≡ []) × (left ≡ Some []) × (new ≡ old)

-- Of the bytes before a read and those that are left, where they are told: so many fewer stand ahead up to a line feed. A
-- count that is too high would tell of a line where none is ahead.
abbrev pub IsTakenOff : Option (List ℕ) → Option (List ℕ) → ℕ → ℕ → Type 0
IsTakenOff old new before after = IfSome old (λ bytes. IfSome new (λ left. after ≤ before - (length bytes - length left)))

-- whether a line is within the limit
abbrev pub Judges : List ℕ → NextLine → Type 0
Judges line (Read read) = (read.now ≡ line) × (length line ≤ 1024)
Judges line TooLong = 1024 < length line
Judges line End = ⊥

-- the same at the end of the script, where an empty line is none
abbrev pub JudgesAtEnd : List ℕ → NextLine → Type 0
JudgesAtEnd line (Read read) = (0 < length line) × (read.now ≡ line) × (length line ≤ 1024)
JudgesAtEnd line TooLong = 1024 < length line
JudgesAtEnd line End = line ≡ []

-- Of these bytes the first line was read: what stands before the first line feed without one carriage return at its
-- end, or all that is left.
abbrev pub IsNextLine : List ℕ → NextLine → Type 0
IsNextLine bytes (Read line) = (0 < length bytes) × (line.now ≡ first_line bytes) × (length line.now ≤ 1024)
IsNextLine bytes TooLong = 1024 < length (first_line bytes)
IsNextLine bytes End = bytes ≡ []

-- the bytes, where they are told, are so many that no number counts them
abbrev pub IsEndless : Option (List ℕ) → Type 0
IsEndless told = IfSome told (λ bytes. 2 ^ 64 - 1 ≤ length bytes)

-- why no line was read; nothing is said of running out of memory
abbrev pub IsLineFault : Option (List ℕ) → Bool → LineFault → Type 0
IsLineFault bytes has_failed Input = (has_failed ≡ true) ⊎ IsEndless bytes
IsLineFault bytes has_failed Memory = ⊤

-- Lines of a script of edition 3.
use Rattle.std.specs.Prelude.{◌≡◌, ℕ, ◌<◌, ◌≤◌, List, [], length}
use Rattle.std.specs.Io.BufRead.{first_line}
use Rattle.cmh_console.specs.declared.lines.NextLine.{NextLine}
use Rattle.cmh_console.specs.declared.lines.NextLine.TheVariants.{Line as Read, TooLong, End}

-- whether a line is within the limit
abbrev pub Judges : List ℕ → NextLine → Type 0
Judges line (Read read) = (read.now ≡ line) × (length line ≤ 4096)
Judges line TooLong = 4096 < length line
Judges line End = ⊥

-- the same at the end of the script, where an empty line is none
abbrev pub JudgesAtEnd : List ℕ → NextLine → Type 0
JudgesAtEnd line (Read read) = (0 < length line) × (read.now ≡ line) × (length line ≤ 4096)
JudgesAtEnd line TooLong = 4096 < length line
JudgesAtEnd line End = line ≡ []

-- Of these bytes the first line was read: what stands before the first line feed without one carriage return at its
-- end, or all that is left.
abbrev pub IsNextLine : List ℕ → NextLine → Type 0
IsNextLine bytes (Read line) = (0 < length bytes) × (line.now ≡ first_line bytes) × (length line.now ≤ 4096)
IsNextLine bytes TooLong = 4096 < length (first_line bytes)
IsNextLine bytes End = bytes ≡ []

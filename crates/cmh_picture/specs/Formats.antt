-- The words of the formats of pictures.
use Rattle.std.specs.Prelude.{◌≡◌, ◌≢◌, ℕ, List, codes, Result, Ok, Err}
use Rattle.cmh_picture.specs.declared.format.Format.{Format}
use Rattle.cmh_picture.specs.declared.format.Format.TheVariants.{Dot, Svg}
use Rattle.cmh_picture.specs.declared.format.NoFormat.{NoFormat}

abbrev pub format_word : Format → List ℕ
format_word Dot = codes "dot"
format_word Svg = codes "svg"

-- the format that has this word; no format where none has it
abbrev pub IsFormatOf : List ℕ → Result Format NoFormat → Type 0
IsFormatOf word (Ok format) = word ≡ format_word format
IsFormatOf word (Err fault) = (format : Format) → word ≢ format_word format

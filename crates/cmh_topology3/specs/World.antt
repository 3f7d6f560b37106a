-- The number of a world as text.
use Rattle.std.specs.Prelude.{◌≡◌, ℕ, ◌/◌, ◌%◌, List, [], ◌∷◌, flat_map, Result, Ok, Err}
use Rattle.std.specs.Fmt.{digit_glyph}
use Rattle.std.specs.Prelude.{false}
use Rattle.hex.specs.Hex.{decode_sized}
use Rattle.cmh_topology3.specs.declared.world.NoWorld.{NoWorld}

-- a byte as two hexadecimal digits
abbrev pub byte_text : ℕ → List ℕ
byte_text b = digit_glyph false (b / 16) ∷ digit_glyph false (b % 16) ∷ []

abbrev pub world_text : List ℕ → List ℕ
world_text world = flat_map byte_text world

-- what a text is read as: the 16 bytes that its digits spell, or nothing
abbrev pub IsReadAs : List ℕ → Result (List ℕ) NoWorld → Type 0
IsReadAs text (Ok world) = decode_sized text 16 ≡ Ok world
IsReadAs text (Err fault) = (world : List ℕ) → decode_sized text 16 ≡ Ok world → ⊥

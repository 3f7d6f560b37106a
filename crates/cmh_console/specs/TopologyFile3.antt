-- What the bytes of a topology file of edition 3 say.
use Rattle.std.specs.Prelude.{◌≡◌, ℕ, List, Option, Some, option_and_then, codes, IsUtf8}
use Rattle.std.specs.Result.{result_ok}
use Rattle.serde_json.specs.Data.{Data}
use Rattle.serde_json.specs.Find.{get, as_str}
use Rattle.serde_json.specs.Read.{read}
use Rattle.hex.specs.Hex.{decode_sized}
use Rattle.cmh_frames.specs.Rows.{Row}
use Rattle.cmh_console.specs.TopologyFile.{each_in, number_in, row_of}

-- the 16 bytes that 32 hexadecimal digits spell
abbrev pub number_of_world : Data → Option (List ℕ)
number_of_world d = option_and_then (λ text. result_ok (decode_sized text 16)) (option_and_then as_str (get (codes "world") d))

-- the bytes are the JSON of edition 3, a world's number, and rows
pub record SaysWorld (bytes world : List ℕ) (rows : List Row) : Type 0 where
  pub value : Data
  pub json : IsUtf8 bytes × (read bytes ≡ Some value)
  pub edition_is : number_in (codes "edition") value ≡ Some 3
  pub world_is : number_of_world value ≡ Some world
  pub rows_are : each_in (codes "sites") row_of value ≡ Some rows

-- they are no such thing
abbrev pub SaysNoWorld : List ℕ → Type 0
SaysNoWorld bytes = (world : List ℕ) (rows : List Row) → SaysWorld bytes world rows → ⊥

-- Which topology files are of edition 3.
use Rattle.std.specs.Prelude.{ℕ, List}
use Rattle.cmh_frames.specs.Rows.{Row}
use Rattle.cmh_console.specs.TopologyFile3.{SaysNoWorld, SaysWorld}

-- the file names edition 3, the number of a world, and rows
abbrev pub IsOfEdition3 : List ℕ → Type 0
IsOfEdition3 bytes = (world : List ℕ) × (rows : List Row) × SaysWorld bytes world rows

-- How a topology file is read, part by part.
use Rattle.std.specs.Prelude.{◌≡◌, ℕ, ◌==◌, Bool, false, ◌||◌, if◌then◌else◌, List, [], ◌∷◌, Option, None, Some, option_and_then, codes, IsUtf8, ⊤}
use Rattle.std.specs.List.{list_any}
use Rattle.std.specs.Option.{option_zip}
use Rattle.serde_json.specs.Data.{Data}
use Rattle.serde_json.specs.Read.{read}
use Rattle.cmh_frames.specs.declared.edition.Edition.{Edition}
use Rattle.cmh_frames.specs.declared.edition.Edition.TheVariants.{One, Two}
use Rattle.cmh_frames.specs.Rows.{Row}
use Rattle.cmh_console.specs.TopologyFile.{each_in, number_in, row_of}
use Rattle.cmh_console.specs.TopologyFile3.{number_of_world}
use Rattle.cmh_console.specs.declared.topology_file.TopologyFileFault.{TopologyFileFault}
use Rattle.cmh_console.specs.declared.topology_file.TopologyFileFault.TheVariants.{Json, Memory}

-- the bytes are the JSON of this
abbrev pub IsJsonOf : List ℕ → Data → Type 0
IsJsonOf bytes value = IsUtf8 bytes × (read bytes ≡ Some value)

abbrev pub edition_numbered : ℕ → Option Edition
edition_numbered n = if n == 1 then Some One else (if n == 2 then Some Two else None)

abbrev pub edition_in : Data → Option Edition
edition_in d = option_and_then edition_numbered (number_in (codes "edition") d)

-- the edition and the rows of a topology
abbrev pub topology_in : Data → Option (Edition × List Row)
topology_in d = option_zip (edition_in d) (each_in (codes "sites") row_of d)

abbrev pub is_three : Option ℕ → Bool
is_three None = false
is_three (Some n) = n == 3

abbrev pub is_edition3 : Data → Bool
is_edition3 d = is_three (number_in (codes "edition") d)

-- the number of a world of edition 3, and its rows
abbrev pub world_in : Data → Option (List ℕ × List Row)
world_in d = if is_edition3 d then option_zip (number_of_world d) (each_in (codes "sites") row_of d) else None

-- a number stands twice
abbrev pub has_repeats : List ℕ → Bool
has_repeats [] = false
has_repeats (n ∷ ns) = list_any (λ m. m == n) ns || has_repeats ns

-- there is nothing to be read; nothing is said of running out of memory
abbrev pub IsFaultOf : {X : Type 0} → Option X → TopologyFileFault → Type 0
IsFaultOf said Json = said ≡ None
IsFaultOf said Memory = ⊤

-- the bytes are no JSON
abbrev pub IsFaultOfJson : List ℕ → TopologyFileFault → Type 0
IsFaultOfJson bytes Json = (value : Data) → IsJsonOf bytes value → ⊥
IsFaultOfJson bytes Memory = ⊤

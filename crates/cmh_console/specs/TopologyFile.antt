-- What the bytes of a topology file say.
use Rattle.std.specs.Prelude.{◌≡◌, ℕ, ◌==◌, ◌&&◌, nat_lt, if◌then◌else◌, List, [], ◌∷◌, Option, None, Some, option_and_then, codes, IsUtf8, ⊤}
use Rattle.std.specs.List.{IsDistinct}
use Rattle.std.specs.Option.{option_map, option_zip}
use Rattle.serde_json.specs.Data.{unsigned, negative, Data, number, Items, no_items, item}
use Rattle.serde_json.specs.Find.{get, as_array, as_number, as_u64}
use Rattle.serde_json.specs.Read.{read}
use Rattle.cmh_frames.specs.declared.edition.Edition.{Edition}
use Rattle.cmh_frames.specs.Edition.{number_of}
use Rattle.cmh_frames.specs.Rows.{Row, IsFaultOf as IsFaultOfRows}
use Rattle.cmh_frames.specs.declared.rows.TopologyFault.{TopologyFault}
use Rattle.cmh_frames.specs.Topology.{Topology, IsTopologyOf}
use Rattle.cmh_console.specs.declared.topology_file.TopologyFileFault.{TopologyFileFault}
use Rattle.cmh_console.specs.declared.topology_file.TopologyFileFault.TheVariants.{Json, Memory}

-- a whole number that JSON's integers hold; 0 in place of one below 0 or above 65535
abbrev pub whole_of : Data → Option ℕ
whole_of (number (unsigned n)) = Some (if nat_lt n 65536 then n else 0)
whole_of (number (negative z)) = Some 0
whole_of d = None

-- the whole number of this name, if it is not below 0
abbrev pub number_in : List ℕ → Data → Option ℕ
number_in name d = option_and_then as_u64 (option_and_then as_number (get name d))

-- each item as it is read, if each can be
abbrev pub each_of : {X : Type 0} → (Data → Option X) → Items → Option (List X)
each_of read_one no_items = Some []
each_of read_one (item d ds) = option_map (λ both. both.0 ∷ both.1) (option_zip (read_one d) (each_of read_one ds))

-- the items of the array of this name
abbrev pub each_in : {X : Type 0} → List ℕ → (Data → Option X) → Data → Option (List X)
each_in name read_one d = option_and_then (each_of read_one) (option_and_then as_array (get name d))

-- a site and its processes
abbrev pub row_of : Data → Option Row
row_of d = option_zip (option_and_then whole_of (get (codes "site") d)) (each_in (codes "processes") whole_of d)

-- the bytes are the JSON of an edition and of rows
pub record Says (bytes : List ℕ) (edition : Edition) (rows : List Row) : Type 0 where
  pub value : Data
  pub json : IsUtf8 bytes × (read bytes ≡ Some value)
  pub edition_is : number_in (codes "edition") value ≡ Some (number_of edition)
  pub rows_are : each_in (codes "sites") row_of value ≡ Some rows

-- the file says this topology
abbrev pub SaysTopology : List ℕ → Topology → Type 0
SaysTopology file t = (rows : List Row) × Says file t.edition rows × IsTopologyOf t.edition rows t

-- the file says a topology, and this holds of it
abbrev pub OfTopology : List ℕ → (Topology → Type 0) → Type 0
OfTopology file Holds = (t : Topology) × SaysTopology file t × Holds t

-- the file says rows that are those of no topology
abbrev pub IsOfNoTopology : List ℕ → TopologyFault → Type 0
IsOfNoTopology file fault =
    (edition : Edition) × (rows : List Row) × Says file edition rows × IsFaultOfRows edition rows fault

-- it says no rows
abbrev pub SaysNoRows : List ℕ → Type 0
SaysNoRows file = (edition : Edition) (rows : List Row) → Says file edition rows → ⊥

-- ---- ports

-- a port from 1 to 65535
abbrev pub port_in : Data → Option ℕ
port_in d = option_and_then (λ n. if nat_lt 0 n && nat_lt n 65536 then Some n else None) (number_in (codes "port") d)

-- its sites have these ports, each its own
pub record SaysPorts (bytes : List ℕ) (ports : List ℕ) : Type 0 where
  pub value : Data
  pub json : IsUtf8 bytes × (read bytes ≡ Some value)
  pub ports_are : each_in (codes "sites") port_in value ≡ Some ports
  pub apart : IsDistinct ◌==◌ ports

-- it says no rows with ports
abbrev pub SaysNoPorts : List ℕ → Type 0
SaysNoPorts file =
    (edition : Edition) (rows : List Row) (ports : List ℕ) → Says file edition rows → SaysPorts file ports → ⊥

-- ---- faults

-- this holds; nothing is said of running out of memory
abbrev pub IsFileFault : Type 0 → TopologyFileFault → Type 0
IsFileFault none Json = none
IsFileFault none Memory = ⊤

-- The site that a handle is opened with, and why none is.
use Rattle.std.specs.Prelude.{◌≡◌, ◌⊎◌, ℕ, ◌+◌, false, List, ◌∷◌, length, Some}
use Rattle.std.specs.List.{flat_map}
use Rattle.cmh_frames.specs.declared.edition.Edition.{Edition}
use Rattle.cmh_frames.specs.Edition.{number_of}
use Rattle.cmh_frames.specs.Rows.{Row, fault_number, fault_of}
use Rattle.cmh_frames.specs.declared.rows.TopologyFault.{TopologyFault}
use Rattle.cmh_frames.specs.Topology.{IsTopologyOf, Topology, is_site}
use Rattle.cmh_seat.specs.Seat.{Seat, fresh}

-- of each row the site, how many processes it has, and these
abbrev pub words_of : List Row → List ℕ
words_of rows = flat_map (λ (row : Row). row.0 ∷ length row.1 ∷ row.1) rows

-- the words are those of these rows
abbrev pub SaysWords : ℕ → List ℕ → Edition → List Row → Type 0
SaysWords number words edition rows = (number ≡ number_of edition) × (words ≡ words_of rows)

-- rows are said in some way, and this holds of their edition and them
abbrev pub OfRows : (Edition → List Row → Type 0) → (Edition → List Row → Type 0) → Type 0
OfRows SaysRows Holds = (edition : Edition) × (rows : List Row) × SaysRows edition rows × Holds edition rows

-- the site with this number of the world with just these rows, before its first step
abbrev pub IsSiteOf : ℕ → Seat → Edition → List Row → Type 0
IsSiteOf number seat edition rows =
    (world : Topology) × IsTopologyOf edition rows world × (seat ≡ fresh world number)

-- why the rows give no such site
abbrev pub IsNoSite : ℕ → ℕ → Edition → List Row → Type 0
IsNoSite code number edition rows =
    ((fault : TopologyFault) × (fault_of edition rows ≡ Some fault) × (code ≡ 30 + fault_number fault))
    ⊎ ((world : Topology) × IsTopologyOf edition rows world × (is_site world number ≡ false) × (code ≡ 2))

-- why no site is opened; out of memory may stand in place of an answer
abbrev pub IsNotOpened : ℕ → ℕ → (Edition → List Row → Type 0) → Type 0
IsNotOpened code number SaysRows =
    (code ≡ 11)
    ⊎ ((code ≡ 25) × ((edition : Edition) (rows : List Row) → ¬ SaysRows edition rows))
    ⊎ OfRows SaysRows (IsNoSite code number)

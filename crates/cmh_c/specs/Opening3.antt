-- The site of edition 3 that a handle is opened with, and why none is.
use Rattle.std.specs.Prelude.{◌≡◌, ◌≢◌, ◌⊎◌, ℕ, ◌+◌, true, false, List, length, Option, None, Some}
use Rattle.cmh_frames.specs.Rows.{Row, fault_number}
use Rattle.cmh_frames.specs.declared.rows.TopologyFault.{TopologyFault}
use Rattle.cmh_topology3.specs.Rows.{fault_of}
use Rattle.cmh_topology3.specs.Topology.{IsTopologyOf, Topology, is_site}
use Rattle.cmh_seat3.specs.Opening.{IsNotOpened as IsUnopened, Opens}
use Rattle.cmh_seat3.specs.Seat.{IsFresh, Seat}
use Rattle.cmh_seat3.specs.declared.restart_fault.RestartFault.{RestartFault}
use Rattle.cmh_c.specs.Codes3.{code_of_restart, place_of}
use Rattle.cmh_c.specs.Opening.{words_of}

-- the words are those of rows, the world's number has 16 bytes, and this holds of the rows
abbrev pub OfRows : List ℕ → List ℕ → (List Row → Type 0) → Type 0
OfRows world words Holds = (rows : List Row) × (words ≡ words_of rows) × (length world ≡ 16) × Holds rows

-- the site with this number of the world with this number and just these rows, before its first step
abbrev pub IsSiteOf : List ℕ → ℕ → Seat → List Row → Type 0
IsSiteOf world number seat rows =
    (topology : Topology) × IsTopologyOf world rows topology × IsFresh topology number seat

-- the site, opened on its journal, which has so many of these bytes
abbrev pub Reopens : List ℕ → ℕ → List ℕ → Seat → ℕ → List Row → Type 0
Reopens world number journal seat end rows =
    (topology : Topology) × IsTopologyOf world rows topology × Opens topology number journal seat end

-- why the rows give no such site
abbrev pub IsNoSite : ℕ → List ℕ → ℕ → List Row → Type 0
IsNoSite code world number rows =
    ((fault : TopologyFault) × (fault_of rows ≡ Some fault) × (code ≡ 30 + fault_number fault))
    ⊎ ((topology : Topology) × IsTopologyOf world rows topology × (is_site topology number ≡ false) × (code ≡ 2))

-- why no site is opened: the first reason that holds; out of memory may stand in place of an answer
abbrev pub IsNotOpened : ℕ → List ℕ → List ℕ → ℕ → Type 0
IsNotOpened code world words number =
    (code ≡ 11)
    ⊎ ((code ≡ 50) × (length world ≢ 16))
    ⊎ ((code ≡ 25) × (length world ≡ 16) × ((rows : List Row) → words ≢ words_of rows))
    ⊎ OfRows world words (IsNoSite code world number)

-- and why none is opened on its journal, with the place that is told of a fault of the journal
abbrev pub IsNotReopened : ℕ → Option ℕ → List ℕ → List ℕ → ℕ → List ℕ → Type 0
IsNotReopened code told world words number journal =
    (IsNotOpened code world words number × (told ≡ None))
    ⊎ OfRows world words (λ rows. (topology : Topology) × (fault : RestartFault) × IsTopologyOf world rows topology
    × (is_site topology number ≡ true) × IsUnopened topology number journal fault
    × (code ≡ code_of_restart fault) × (told ≡ place_of fault))

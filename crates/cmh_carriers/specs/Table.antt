-- The state of each link of a site.
use Rattle.std.specs.Prelude.{◌≡◌, ◌≢◌, ℕ, ◌<◌, ◌==◌, List, [], ◌∷◌, length, slice_index_or, Option, None, Some, if◌then◌else◌, ◌++◌, codes}
use Rattle.std.specs.Fmt.{decimal}
use Rattle.std.specs.List.{list_any}
use Rattle.cmh_carriers.specs.declared.table.LinkState.{LinkState}
use Rattle.cmh_carriers.specs.declared.table.LinkState.TheVariants.{Fresh, Running, Closed}
use Rattle.cmh_carriers.specs.declared.table.LinkFault.{LinkFault}
use Rattle.cmh_carriers.specs.declared.table.LinkFault.TheVariants.{Connect, Read, Write, Bad, Ended, Memory, Station}

-- of the links from and to each other site, the state
pub record Table : Type 0 where
  pub into : List (ℕ × LinkState)
  pub out : List (ℕ × LinkState)

-- the state of the first row of a site
abbrev pub state_at : List (ℕ × LinkState) → ℕ → Option LinkState
state_at [] s = None
state_at (r ∷ rs) s = if r.0 == s then Some r.1 else state_at rs s

-- a new link opens, and no other one
abbrev pub claimed : Option LinkState → Option LinkState
claimed None = None
claimed (Some Fresh) = Some Running
claimed (Some Running) = Some Running
claimed (Some (Closed fault)) = Some (Closed fault)

-- a link that is not closed closes with this fault
abbrev pub closed_by : LinkFault → Option LinkState → Option LinkState
closed_by fault None = None
closed_by fault (Some (Closed earlier)) = Some (Closed earlier)
closed_by fault (Some state) = Some (Closed fault)

-- the first row of the site
abbrev pub IsPlace : List (ℕ × LinkState) → ℕ → Option ℕ → Type 0
IsPlace rows site None = (k : ℕ) (d : ℕ × LinkState) → k < length rows → (slice_index_or rows k d).0 ≢ site
IsPlace rows site (Some place) = (place < length rows) × ((d : ℕ × LinkState) → (slice_index_or rows place d).0 ≡ site)
    × ((k : ℕ) (d : ℕ × LinkState) → k < place → (slice_index_or rows k d).0 ≢ site)

-- of these sites, all but one have a link, which is new
abbrev pub AllFresh : List ℕ → ℕ → List (ℕ × LinkState) → Type 0
AllFresh sites own rows = (s : ℕ) → state_at rows s ≡
    (if s == own then None else (if list_any (λ t. t == s) sites then Some Fresh else None))

-- the number that stands for a fault in texts
abbrev pub number_of : LinkFault → ℕ
number_of Connect = 1
number_of Read = 2
number_of Write = 3
number_of Bad = 4
number_of Ended = 5
number_of Memory = 6
number_of Station = 7

-- a state, as it is printed
abbrev pub state_text : LinkState → List ℕ
state_text Fresh = codes "new"
state_text Running = codes "open"
state_text (Closed fault) = codes "closed " ++ decimal (number_of fault)

-- How far entries are lawful from a state.
use Rattle.std.specs.Prelude.{ℕ, ◌+◌, ◌<◌, ◌≤◌, List, [], ◌∷◌, length, map, take, Option}
use Rattle.std.specs.List.{AllZip}
use Rattle.std.specs.Option.{option_map}
use Rattle.cmh_model3.specs.Journals.{state_after}
use Rattle.cmh_model3.specs.State.{State, empty_state}
use Rattle.cmh_topology3.specs.Topology.{Topology, site_of}
use Rattle.cmh_controller3.specs.Controller.{Controller}
use Rattle.cmh_controller3.specs.declared.outcome.Declaration.{Declaration as Declared}
use Rattle.cmh_segment3.specs.declared.entry.Declaration.{Declaration}
use Rattle.cmh_segment3.specs.declared.entry.Entry.{Entry}
use Rattle.cmh_segment3.specs.declared.segment.Segment.{Segment}
use Rattle.cmh_segment3.specs.Entries.{step_of}
use Rattle.cmh_audit3.specs.Journals.{AreLawfulFrom}
use Rattle.cmh_audit3.specs.Standing.{StandsAt}

-- what an entry records of a declaration
abbrev pub recorded : Option Declared → Option Declaration
recorded declared = option_map (λ (d : Declared). record { process = d.process; stamp = d.stop }) declared

-- They are entries of the site's written controller, which begins in the first state.
abbrev pub AreLawful : Topology → ℕ → List Entry → Type 0
AreLawful t s entries = AreLawfulFrom t s empty_state entries

-- the longest lawful beginning has n entries
pub record IsLawfulLength (t : Topology) (s : ℕ) (v : State) (entries : List Entry) (n : ℕ) : Type 0 where
  pub within : n ≤ length entries
  pub lawful : AreLawfulFrom t s v (take n entries)
  pub stops : n < length entries → AreLawfulFrom t s v (take (n + 1) entries) → ⊥

-- one for each segment, where each site begins in its state among these
abbrev pub AreLawfulLengths : Topology → (ℕ → State) → List Segment → List ℕ → Type 0
AreLawfulLengths t states [] [] = Unit {0}
AreLawfulLengths t states [] (n ∷ limits) = ⊥
AreLawfulLengths t states (g ∷ segments) [] = ⊥
AreLawfulLengths t states (g ∷ segments) (n ∷ limits) =
    IsLawfulLength t g.header.site (states g.header.site) g.entries n × AreLawfulLengths t states segments limits

-- where the entries are lawful, the controller stands where they lead
abbrev pub StandsIfLawful : Topology → ℕ → State → List Entry → Controller → Type 0
StandsIfLawful t s v entries c = AreLawfulFrom t s v entries → StandsAt t s (state_after (site_of t) s v (map step_of entries)) c

-- one for each segment
abbrev pub StandIfLawful : Topology → (ℕ → State) → List Segment → List Controller → Type 0
StandIfLawful t states segments controllers =
    AllZip (λ (g : Segment) (c : Controller). StandsIfLawful t g.header.site (states g.header.site) g.entries c)
    segments controllers

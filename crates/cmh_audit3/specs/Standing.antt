-- Controllers that stand in states.
use Rattle.std.specs.Prelude.{◌≡◌, ℕ, List, map}
use Rattle.std.specs.List.{AllZip}
use Rattle.cmh_controller3.specs.Controller.{Controller, state_of}
use Rattle.cmh_model3.specs.Journals.{state_after}
use Rattle.cmh_model3.specs.State.{State}
use Rattle.cmh_topology3.specs.Topology.{Topology, site_of}
use Rattle.cmh_segment3.specs.declared.segment.Segment.{Segment}
use Rattle.cmh_segment3.specs.Entries.{step_of}

-- the controller of a site stands in this state
pub record StandsAt (t : Topology) (s : ℕ) (v : State) (c : Controller) : Type 0 where
  pub topology : c.topology ≡ t
  pub site : c.site ≡ s
  pub state : state_of c ≡ v

-- The controllers are those of the segments' sites, in the order of the segments, and each stands in the state of its site.
abbrev pub StandIn : Topology → (ℕ → State) → List Segment → List Controller → Type 0
StandIn t states segments controllers =
    AllZip (λ (g : Segment) (c : Controller). StandsAt t g.header.site (states g.header.site) c) segments controllers

-- each stands where the entries of its segment lead from there
abbrev pub StandBehind : Topology → (ℕ → State) → List Segment → List Controller → Type 0
StandBehind t states segments controllers =
    AllZip (λ (g : Segment) (c : Controller).
    StandsAt t g.header.site (state_after (site_of t) g.header.site (states g.header.site) (map step_of g.entries)) c)
    segments controllers

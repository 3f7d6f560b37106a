-- Controllers that have taken no step.
use Rattle.std.specs.Prelude.{◌≡◌, ℕ, List, map}
use Rattle.std.specs.List.{AllByRecursion}
use Rattle.cmh_controller3.specs.Controller.{Controller, state_of}
use Rattle.cmh_model3.specs.State.{empty_state}
use Rattle.cmh_topology3.specs.Topology.{Topology}

-- one for each of the sites, in their order
pub record AreFresh (t : Topology) (sites : List ℕ) (controllers : List Controller) : Type 0 where
  pub of_sites : map (λ (c : Controller). c.site) controllers ≡ sites
  pub topologies : AllByRecursion (λ (c : Controller). c.topology ≡ t) controllers
  pub first : AllByRecursion (λ (c : Controller). state_of c ≡ empty_state) controllers

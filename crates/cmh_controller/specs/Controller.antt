-- What a caller sees of a controller, and what it keeps of its site.
use Rattle.std.specs.Prelude.{◌≡◌, ℕ, true, IsSome}
use Rattle.cmh_frames.specs.Topology.{Topology, home, is_at}
use Rattle.cmh_frames.specs.Relation.{Relation, Numbers, has}
use Rattle.cmh_frames.specs.State.{State, empty_state}
use Rattle.cmh_waits.specs.Held.{Held, is_member}

-- the controller of a site: its topology, the site, and its state
pub record Controller : Type 0 where
  pub topology : Topology
  pub site : ℕ
  pub state : State

-- a controller that has taken no step
abbrev pub new_controller : Topology → ℕ → Controller
new_controller t s = record { topology = t; site = s; state = empty_state }

-- the state of a site that holds these
abbrev pub state_of : Held → Relation → Numbers → State
state_of held dependents declared =
    record { waits = held.waits; owed = held.owed; dependents = dependents; declared = declared }

-- What a site holds is of the topology: its members are those that the topology puts there, and whom they wait for is
-- known.
pub record IsOfSite (t : Topology) (s : ℕ) (held : Held) : Type 0 where
  pub members : (p : ℕ) → is_member held p ≡ is_at t p s
  pub known : (j k : ℕ) → has held.waits j k ≡ true → IsSome (home t k)

-- What a station answers to questions, which change nothing.
use Rattle.std.specs.Prelude.{ℕ, ◌≡◌, ◌≢◌, ◌<◌, ◌↔◌, false, true, Contains, List, [], ◌∷◌, length, None}
use Rattle.std.specs.List.Sorted.{IsStrictlyIncreasing}
use Rattle.cmh_frames.specs.Topology.{At, Topology, home}
use Rattle.cmh_frames.specs.declared.event.Event.{Event}
use Rattle.cmh_frames.specs.Relation.{has}
use Rattle.cmh_frames.specs.Rules.{Accepts}
use Rattle.cmh_controller.specs.declared.refusal.Refusal.TheVariants.{UnknownProcess, NotHere, Memory}
use Rattle.cmh_journal.specs.Journal.{entry_limit}
use Rattle.cmh_station.specs.Journaled.{Journaled, state_of}
use Rattle.cmh_station.specs.declared.refusal.StationRefusal.{StationRefusal}
use Rattle.cmh_station.specs.declared.refusal.StationRefusal.TheVariants.{Rule}

-- a step takes the event, if memory and the sink allow it
pub record CanStep (a : Journaled) (event : Event) : Type 0 where
  pub is_open : a.sealed ≡ false
  pub not_full : length a.entries < entry_limit
  pub accepted : Accepts a.topology a.site (state_of a) event

-- there are events, and a step takes the first of them so
abbrev pub CanStepFirst : Journaled → List Event → Type 0
CanStepFirst a [] = ⊥
CanStepFirst a (event ∷ events) = CanStep a event

-- Why a question about a process is refused: it is not in the topology, or at home at another site. Memory may be refused
-- where it is at home at this one.
abbrev pub RefusesQuestion : Topology → ℕ → ℕ → StationRefusal → Type 0
RefusesQuestion t site process (Rule UnknownProcess) = home t process ≡ None
RefusesQuestion t site process (Rule NotHere) = (other : ℕ) × At t process other × (other ≢ site)
RefusesQuestion t site process (Rule Memory) = At t process site
RefusesQuestion t site process reason = ⊥

-- in a state of a station a process of its site waits for just these
pub record WaitsFor (process : ℕ) (others : List ℕ) : Type 0 where
  pub station : Journaled
  pub here : At station.topology process station.site
  pub ascending : IsStrictlyIncreasing others
  pub all : (k : ℕ) → Contains others k ↔ (has (state_of station).waits process k ≡ true)

-- in a state of a station a process of its site has not answered just these
pub record Owes (process : ℕ) (others : List ℕ) : Type 0 where
  pub station : Journaled
  pub here : At station.topology process station.site
  pub ascending : IsStrictlyIncreasing others
  pub all : (j : ℕ) → Contains others j ↔ (has (state_of station).owed process j ≡ true)

-- a station refuses a question about the process
abbrev pub WasNoQuestion : ℕ → StationRefusal → Type 0
WasNoQuestion process refusal = (station : Journaled) × RefusesQuestion station.topology station.site process refusal

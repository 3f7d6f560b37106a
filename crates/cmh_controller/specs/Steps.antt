-- A step of a controller, whole, and in two halves: what may fail comes first.
use Rattle.std.specs.Prelude.{◌≡◌, ℕ, Bool, not, List, ◌==◌, if◌then◌else◌, Option, None, Some}
use Rattle.std.specs.FinSet as set
use Rattle.cmh_frames.specs.declared.frame.Frame.{Frame}
use Rattle.cmh_frames.specs.declared.frame.Frame.TheVariants.{Request, Reply as Reply_frame, Probe}
use Rattle.cmh_frames.specs.Topology.{Topology, is_at}
use Rattle.cmh_frames.specs.declared.event.Event.{Event}
use Rattle.cmh_frames.specs.declared.event.Event.TheVariants.{Ask, Reply, Start, Got}
use Rattle.cmh_frames.specs.Relation.{Numbers, only_firsts, without_pair}
use Rattle.cmh_frames.specs.State.{State}
use Rattle.cmh_frames.specs.Rules.{Accepts, Sends, after}
use Rattle.cmh_waits.specs.Held.{owed_before_ask}
use Rattle.cmh_controller.specs.Controller.{Controller}
use Rattle.cmh_controller.specs.declared.prepared.Prepared.{Prepared}

-- the controller accepts the event
abbrev pub CanTake : Controller → Event → Type 0
CanTake c event = Accepts c.topology c.site c.state event

-- a controller takes an event: it accepts it, sends and declares what the rules say, and stands where they lead
pub record Steps (old : Controller) (event : Event) (sent : List (ℕ × Frame)) (declared : Option ℕ) (new : Controller)
    : Type 0 where
  pub accepted : CanTake old event
  pub sends : Sends old.topology old.site old.state event sent declared
  pub stands : new ≡ record old { state = after old.topology old.site old.state event declared }

-- ---- the first half: what takes memory is done; a reply, sent or received, takes none and is still to be done

abbrev pub prepared_state : Topology → ℕ → State → Event → Option ℕ → State
prepared_state t s v (Ask asker targets) declared = after t s v (Ask asker targets) declared
prepared_state t s v (Reply holder asker) declared = v
prepared_state t s v (Start i) declared = after t s v (Start i) declared
prepared_state t s v (Got a (Request (asker, holder))) declared = after t s v (Got a (Request (asker, holder))) declared
prepared_state t s v (Got a (Reply_frame (holder, asker))) declared = v
prepared_state t s v (Got a (Probe (origin, from, to))) declared =
    after t s v (Got a (Probe (origin, from, to))) declared

-- ---- back from there

-- without a declaration that was new
abbrev pub undeclared : Numbers → Option ℕ → Numbers
undeclared known None = known
undeclared known (Some i) = set.remove known i

-- without the waits, owed replies and dependents that the event put in; a probe put in a dependent where it acted
abbrev pub without_event : Topology → ℕ → State → Event → Bool → State
without_event t s v (Ask asker targets) acted = record v {
  waits = only_firsts v.waits (λ p. not (p == asker));
  owed = owed_before_ask (λ p. is_at t p s) v.owed asker targets;
}
without_event t s v (Reply holder asker) acted = v
without_event t s v (Start i) acted = v
without_event t s v (Got a (Request (asker, holder))) acted = record v { owed = without_pair v.owed holder asker }
without_event t s v (Got a (Reply_frame (holder, asker))) acted = v
without_event t s v (Got a (Probe (origin, from, to))) acted =
    if acted then record v { dependents = without_pair v.dependents to origin } else v

-- without all that it put in
abbrev pub taken_back : Topology → ℕ → State → Event → Bool → Option ℕ → State
taken_back t s v event acted declared =
    let left = without_event t s v event acted in
    record left { declared = undeclared left.declared declared }

-- a controller prepares an event: it accepts it, what comes of it is what the rules say, and there is a way back
pub record Prepares (old : Controller) (event : Event) (prepared : Prepared) (new : Controller) : Type 0 where
  pub accepted : CanTake old event
  pub sends : Sends old.topology old.site old.state event prepared.outcome.sent prepared.outcome.declared
  pub stands :
      new ≡ record old { state = prepared_state old.topology old.site old.state event prepared.outcome.declared }
  pub back :
      taken_back old.topology old.site (prepared_state old.topology old.site old.state event prepared.outcome.declared)
      event prepared.acted prepared.outcome.declared ≡ old.state

-- a controller stands where it prepared the event
abbrev pub WasPrepared : Event → Controller → Type 0
WasPrepared event c = (old : Controller) × (prepared : Prepared) × Prepares old event prepared c

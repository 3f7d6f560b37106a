-- Turns are refused, since they have no entries.
use Rattle.std.proofs.Common.{◌≡◌, ℕ, refl}
use Rattle.cmh_controller3.specs.Refusals as controller
use Rattle.cmh_controller3.specs.declared.refusal.Refusal.{Refusal}
use Rattle.cmh_controller3.specs.declared.refusal.Refusal.TheVariants.{UnknownProcess, NotHere, BadTargets, Blocked, NotBlocked, NotOwed, Unlawful, Memory, Leaving, AlreadyWaits, NotWaiting, ClockSpent}
use Rattle.cmh_model3.specs.State.{State}
use Rattle.cmh_model3.specs.declared.event.Event.{Event}
use Rattle.cmh_model3.specs.declared.event.Event.TheVariants.{Ask, Reply, Withdraw, Got, Turn}
use Rattle.cmh_segment3.specs.Steps.{HasEntry}
use Rattle.cmh_topology3.specs.Topology.{site_of}
use Rattle.cmh_station3.specs.Inner.Turns.{IsTurn}
use Rattle.cmh_station3.specs.Sites.{Refuses, Site}

pub no_turn : (event : Event) → IsTurn event → HasEntry event → ⊥
no_turn (Turn clock) turn has = has
no_turn (Ask j ks) turn has = turn
no_turn (Reply k j) turn has = turn
no_turn (Withdraw j ks) turn has = turn
no_turn (Got a c frame) turn has = turn

pub turn_refused : (site : Site) (event : Event) → IsTurn event → Refuses site event Unlawful
turn_refused site (Turn clock) turn = refl
turn_refused site (Ask j ks) turn = absurd turn
turn_refused site (Reply k j) turn = absurd turn
turn_refused site (Withdraw j ks) turn = absurd turn
turn_refused site (Got a c frame) turn = absurd turn

-- of what has an entry, the controller says why
pub event_refused : (site : Site) (event : Event) (reason : Refusal) → HasEntry event → controller.RefusesFor (site_of site.topology) site.number site.state event reason → Refuses site event reason
event_refused site (Turn clock) reason has why = absurd has
event_refused site (Ask j ks) reason has why = why
event_refused site (Reply k j) reason has why = why
event_refused site (Withdraw j ks) reason has why = why
event_refused site (Got a c frame) reason has why = why

-- the rules are why an event is refused for which there is memory
pub refused_for : (home : ℕ → ℕ) (s : ℕ) (v : State) (event : Event) (reason : Refusal) → (reason ≡ Memory → ⊥) → controller.Refuses home s v event reason → controller.RefusesFor home s v event reason
refused_for home s v event Memory other why = absurd (other refl)
refused_for home s v event UnknownProcess other why = why
refused_for home s v event NotHere other why = why
refused_for home s v event BadTargets other why = why
refused_for home s v event Blocked other why = why
refused_for home s v event NotBlocked other why = why
refused_for home s v event NotOwed other why = why
refused_for home s v event Unlawful other why = why
refused_for home s v event Leaving other why = why
refused_for home s v event AlreadyWaits other why = why
refused_for home s v event NotWaiting other why = why
refused_for home s v event ClockSpent other why = why

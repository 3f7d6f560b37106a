-- What is held of a world that is played, and which worlds it shows: what the entries sent is not held, so it shows each
-- world whose events come to what is held.
use Rattle.std.specs.Prelude.{◌≡◌, ℕ, true, List, map, ⊤}
use Rattle.std.specs.List.{AllByRecursion}
use Rattle.cmh_controller3.specs.Controller as control
use Rattle.cmh_model3.specs.Entries.{WorldEvent}
use Rattle.cmh_model3.specs.Runs as runs
use Rattle.cmh_model3.specs.Runs.{IsRun}
use Rattle.cmh_report3.specs.Kept.{without_sent}
use Rattle.cmh_report3.specs.Transit.{kept, sent_in}
use Rattle.cmh_topology3.specs.Topology.{Topology, is_site, site_of, sites_of}
use Rattle.cmh_play3.specs.declared.play.PlayState.{PlayState as HeldState}
use Rattle.cmh_play3.specs.declared.play.PlayState.TheVariants.{Named as HeldNamed, Played as HeldPlayed}
use Rattle.cmh_play3.specs.declared.playground.Playground.{Playground}
use Rattle.cmh_play3.specs.Links.{is_cut, under_way}
use Rattle.cmh_play3.specs.PlayStates.{PlayState, Named, Played}
use Rattle.cmh_play3.specs.World.{World}

-- the world that it is, where these are its events
abbrev pub world_of : Playground → List WorldEvent → World
world_of held events = record { topology = held.topology; events = events; is_cut = λ a b. is_cut held.links a b }

-- The controllers of all sites, in the order of the topology, which stand where the events lead; and no event is of another
-- site.
pub record StandAfter (t : Topology) (events : List WorldEvent) (controllers : List control.Controller) : Type 0 where
  pub sites : map (λ (c : control.Controller). c.site) controllers ≡ sites_of t
  pub topologies : AllByRecursion (λ (c : control.Controller). c.topology ≡ t) controllers
  pub states : AllByRecursion (λ (c : control.Controller).
      control.state_of c ≡ runs.state_of (site_of t) c.site events) controllers
  pub of_world : AllByRecursion (λ (e : WorldEvent). is_site t e.site ≡ true) events

-- The events are a run, which is held but for what was sent, and that is counted; the controllers stand where the events
-- lead, and on each link is what is under way after them.
pub record Shows (events : List WorldEvent) (held : Playground) : Type 0 where
  pub run : IsRun (site_of held.topology) events
  pub stand : StandAfter held.topology events held.controllers.items
  pub links : (a b : ℕ) → under_way held.links a b ≡ runs.under_way a b events
  pub kept_are : map without_sent held.events.items ≡ map without_sent events
  pub sent_is : held.sent ≡ kept (sent_in events)

-- it shows some world
abbrev pub IsPlayed : Playground → Type 0
IsPlayed held = (events : List WorldEvent) × Shows events held

-- it shows a world of which this holds
pub record LeadsTo (new : Playground) (Done : World → Type 0) : Type 0 where
  pub events : List WorldEvent
  pub played : Shows events new
  pub done : Done (world_of new events)

-- of each world that was shown one is shown that is related to it
abbrev pub Leads : (World → World → Type 0) → Playground → Playground → Type 0
Leads Related old new = (events : List WorldEvent) → Shows events old → LeadsTo new (Related (world_of old events))

-- ---- the state of a script

-- the state that it is, where these are the events of its world
abbrev pub shown : HeldState → List WorldEvent → PlayState
shown (HeldNamed draft) events = Named draft
shown (HeldPlayed world) events = Played (world_of world events)

-- these are the events of its world, if it has one
abbrev pub IsShown : List WorldEvent → HeldState → Type 0
IsShown events (HeldNamed draft) = ⊤
IsShown events (HeldPlayed world) = Shows events world

-- it shows a state of which this holds
pub record ShowsSome (held : HeldState) (Holds : PlayState → Type 0) : Type 0 where
  pub events : List WorldEvent
  pub shows : IsShown events held
  pub holds : Holds (shown held events)

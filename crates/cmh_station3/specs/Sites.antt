-- The rules of edition 3 for the sites of a world, each with its topology and its number.
use Rattle.std.specs.Prelude.{◌≡◌, ℕ, List, Some}
use Rattle.cmh_machine.specs.Meaning.{MachineMeaning}
use Rattle.cmh_machine.specs.Transitions.{Transitions}
use Rattle.cmh_model3.specs.Entries.{Entry}
use Rattle.cmh_model3.specs.Rules.{Accepts, Sends, after}
use Rattle.cmh_model3.specs.State.{State}
use Rattle.cmh_model3.specs.Stops.{declared_at}
use Rattle.cmh_model3.specs.declared.event.Event.{Event}
use Rattle.cmh_model3.specs.declared.event.Event.TheVariants.{Turn}
use Rattle.cmh_model3.specs.declared.frame.Message.{Message}
use Rattle.cmh_topology3.specs.Topology.{Topology, site_of}
use Rattle.cmh_controller3.specs.Refusals.{RefusesFor}
use Rattle.cmh_controller3.specs.Steps.{process_in}
use Rattle.cmh_controller3.specs.declared.outcome.Declaration.{Declaration}
use Rattle.cmh_controller3.specs.declared.outcome.Outcome.{Outcome}
use Rattle.cmh_controller3.specs.declared.refusal.Refusal.{Refusal}
use Rattle.cmh_controller3.specs.declared.refusal.Refusal.TheVariants.{Unlawful}
use Rattle.cmh_segment3.specs.Entries.{body_spelling}
use Rattle.cmh_segment3.specs.States.{state_in}
use Rattle.cmh_segment3.specs.Steps.{HasEntry, entry_at}
use Rattle.cmh_station3.specs.declared.beginning.Beginning.{Beginning}

-- a site, and the state of its written controller
pub record Site : Type 0 where
  pub topology : Topology
  pub number : ℕ
  pub state : State

-- It accepts what the rules accept, but for turns, which have no entries.
abbrev pub transitions : Transitions Site Event Message
transitions = record {
  Accepts = λ site event. Accepts (site_of site.topology) site.number site.state event × HasEntry event;
  Sends = λ site event sent declared. Sends (site_of site.topology) site.number site.state event sent declared;
  after = λ site event declared.
      record site { state = after (site_of site.topology) site.number site.state event declared };
}

-- a turn is refused as a frame that breaks the rules is
abbrev pub Refuses : Site → Event → Refusal → Type 0
Refuses site (Turn clock) reason = reason ≡ Unlawful
Refuses site event reason = RefusesFor (site_of site.topology) site.number site.state event reason

-- a declaration names the stop at which the cycle stood
abbrev pub NamesStop : Site → Event → Outcome → Type 0
NamesStop site event outcome = (declaration : Declaration) → outcome.declared ≡ Some declaration
    → declaration.stop ≡ declared_at site.state.clock event

-- the site that begins with a base
abbrev pub site_in : Beginning → Site
site_in b = record { topology = b.topology; number = b.site; state = state_in b.epoch b.base }

-- the body of the entry of a step of the site
abbrev pub step_spelling : Site → Entry → List ℕ
step_spelling site step = body_spelling (entry_at site.state.clock step)

-- What a machine means by these rules, where this is the site in the state in which it stands.
abbrev pub meaning_of : {Machine : Type 0} → (Machine → Site) → MachineMeaning Machine Beginning Refusal Outcome Site Event Message
meaning_of site = record {
  transitions = transitions;
  state = site;
  start = site_in;
  Refuses = Refuses;
  sent = λ outcome. outcome.sent;
  declared = λ outcome. process_in outcome.declared;
  Tells = NamesStop;
  spelling = step_spelling;
}

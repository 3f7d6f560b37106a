-- A step of a controller.
use Rattle.std.specs.Prelude.{◌≡◌, ℕ, ◌||◌, Option, None, Some}
use Rattle.cmh_model3.specs.declared.event.Event.{Event}
use Rattle.cmh_model3.specs.declared.event.Event.TheVariants.{Ask, Reply, Withdraw, Got, Turn}
use Rattle.cmh_model3.specs.declared.frame.Frame.TheVariants.{Request, Reply as Reply_frame, Withdraw as Withdraw_frame, Probe}
use Rattle.cmh_model3.specs.Laws.{JournalFacts}
use Rattle.cmh_model3.specs.Lists.{in_list}
use Rattle.cmh_model3.specs.Rules.{Accepts, Sends, after, targets_away}
use Rattle.cmh_model3.specs.State.{State}
use Rattle.cmh_model3.specs.Stops.{declared_at}
use Rattle.cmh_controller3.specs.Controller.{Controller, home_of, state_of}
use Rattle.cmh_controller3.specs.declared.outcome.Declaration.{Declaration}
use Rattle.cmh_controller3.specs.declared.outcome.Outcome.{Outcome}
use Rattle.cmh_controller3.specs.declared.prepared.Before.{Before}
use Rattle.cmh_controller3.specs.declared.prepared.Prepared.{Prepared}

-- the controller accepts the event
abbrev pub CanTake : Controller → Event → Type 0
CanTake c event = Accepts (home_of c) c.site (state_of c) event

-- the process of a declaration
abbrev pub process_in : Option Declaration → Option ℕ
process_in None = None
process_in (Some declaration) = Some declaration.process

-- A controller takes an event: it accepts it, sends and declares what the rules say, and stands where they lead. A
-- declaration names the stop at which the cycle stood.
pub record Steps (old : Controller) (event : Event) (outcome : Outcome) (new : Controller) : Type 0 where
  pub accepted : CanTake old event
  pub sends : Sends (home_of old) old.site (state_of old) event outcome.sent (process_in outcome.declared)
  pub stop : (declaration : Declaration) → outcome.declared ≡ Some declaration
      → declaration.stop ≡ declared_at old.kept.clock event
  pub topology : new.topology ≡ old.topology
  pub site : new.site ≡ old.site
  pub state : state_of new ≡ after (home_of old) old.site (state_of old) event (process_in outcome.declared)

-- ---- in two halves

-- the state between them: what takes memory is done, and what takes none is still to be done
abbrev pub prepared_state : (ℕ → ℕ) → ℕ → State → Event → Option ℕ → State
prepared_state home s v (Ask j ks) d = after home s v (Ask j ks) d
prepared_state home s v (Reply k j) d = v
prepared_state home s v (Withdraw j ks) d = record v { leaving = λ i k. targets_away home s j ks i k || v.leaving i k }
prepared_state home s v (Got a c (Request j k)) d = after home s v (Got a c (Request j k)) d
prepared_state home s v (Got a c (Reply_frame k j)) d = v
prepared_state home s v (Got a c (Withdraw_frame j k)) d = v
prepared_state home s v (Got a c (Probe i n j k)) d = after home s v (Got a c (Probe i n j k)) d
prepared_state home s v (Turn c) d = v

-- what is remembered of the state before, for the way back
abbrev pub Remembers : State → Event → Before → Type 0
Remembers v (Ask j ks) b = (b.clock ≡ v.clock) × (b.stamp ≡ v.stamp j) × (b.declared ≡ v.declared j)
Remembers v (Withdraw j ks) b = (k : ℕ) → in_list b.leaving k ≡ v.leaving j k
Remembers v (Got a c (Request j k)) b = b.clock ≡ v.clock
Remembers v (Got a c (Probe i n j k)) b = (b.clock ≡ v.clock) × (b.mark ≡ v.marks k i)
Remembers v event b = Unit {0}

-- A controller prepares an event: it accepts it, and what will be sent and declared is what the rules say. It stands
-- between the two states, and what it stood at before is a state of some journal, to which there is a way back.
pub record Prepares (old : Controller) (event : Event) (prepared : Prepared) (new : Controller) : Type 0 where
  pub accepted : CanTake old event
  pub sends :
      Sends (home_of old) old.site (state_of old) event prepared.outcome.sent (process_in prepared.outcome.declared)
  pub stop : (declaration : Declaration) → prepared.outcome.declared ≡ Some declaration
      → declaration.stop ≡ declared_at old.kept.clock event
  pub topology : new.topology ≡ old.topology
  pub site : new.site ≡ old.site
  pub state : state_of new
      ≡ prepared_state (home_of old) old.site (state_of old) event (process_in prepared.outcome.declared)
  pub facts : JournalFacts (home_of old) old.site (state_of old)
  pub before : Remembers (state_of old) event prepared.before

-- a controller stands where it prepared the event
abbrev pub WasPrepared : Event → Prepared → Controller → Type 0
WasPrepared event prepared c = (old : Controller) × Prepares old event prepared c

-- a controller is back where it was
pub record IsBackAt (old new : Controller) : Type 0 where
  pub topology : new.topology ≡ old.topology
  pub site : new.site ≡ old.site
  pub state : state_of new ≡ state_of old

-- A world that is played: all that happened, which links are cut, and what each command does to them.
use Rattle.std.specs.Prelude.{◌≡◌, ℕ, Bool, false, true, ◌&&◌, ◌||◌, not, ◌==◌, List, [], ◌∷◌, ◌++◌, length, Some, MatchOption}
use Rattle.cmh_controller3.specs.Refusals.{Refuses}
use Rattle.cmh_controller3.specs.Steps.{process_in}
use Rattle.cmh_controller3.specs.declared.outcome.Declaration.{Declaration}
use Rattle.cmh_controller3.specs.declared.refusal.Refusal.{Refusal}
use Rattle.cmh_controller3.specs.declared.refusal.Refusal.TheVariants.{UnknownProcess, Memory}
use Rattle.cmh_model3.specs.declared.event.Event.{Event}
use Rattle.cmh_model3.specs.declared.event.Event.TheVariants.{Got, Withdraw}
use Rattle.cmh_model3.specs.declared.frame.Message.{Message}
use Rattle.cmh_model3.specs.Entries.{WorldEvent}
use Rattle.cmh_model3.specs.Laws.{entry_at}
use Rattle.cmh_model3.specs.Rules.{Accepts, Sends}
use Rattle.cmh_model3.specs.Runs.{state_of, under_way}
use Rattle.cmh_model3.specs.Stops.{declared_at}
use Rattle.cmh_report3.specs.Reports.{Reports}
use Rattle.cmh_script3.specs.declared.script.Command.{Command}
use Rattle.cmh_script3.specs.declared.script.Command.TheVariants.{Act, WithdrawAll, Deliver, Cut, Report}
use Rattle.cmh_topology3.specs.Topology.{Topology, home, is_site, site_of}
use Rattle.cmh_play3.specs.declared.reply.Done.{Done}
use Rattle.cmh_play3.specs.declared.reply.Reply.{Reply}
use Rattle.cmh_play3.specs.declared.reply.Reply.TheVariants.{BadLink, Closed, Empty, Lost, Refused, Taken, Got as Handed, Report as Reported}

-- A world that is played, whatever of it is held: the events of all sites in the order in which they were played, and
-- which links are cut. The states of the sites, and what is under way, follow from the events.
pub record World : Type 0 where
  pub topology : Topology
  pub events : List WorldEvent
  pub is_cut : ℕ → ℕ → Bool

abbrev pub homes : World → ℕ → ℕ
homes world p = site_of world.topology p

-- two different sites of the topology
abbrev pub joins : Topology → ℕ → ℕ → Bool
joins t a b = not (a == b) && (is_site t a && is_site t b)

-- there is a link from a to b, on which these are under way, and it is not cut
abbrev pub IsLink : World → ℕ → ℕ → List Message → Type 0
IsLink world a b messages =
    (joins world.topology a b ≡ true) × (world.is_cut a b ≡ false) × (under_way a b world.events ≡ messages)

-- The site s took the event by the rules: the entry comes after all others. A declaration names its stop.
pub record Steps (old new : World) (s : ℕ) (event : Event) (done : Done) : Type 0 where
  pub sent : List (ℕ × Message)
  pub accepted : Accepts (homes old) s (state_of (homes old) s old.events) event
  pub sends : Sends (homes old) s (state_of (homes old) s old.events) event sent (process_in done.declared)
  pub counted : done.sent ≡ length sent
  pub stop : (declaration : Declaration) → done.declared ≡ Some declaration
      → declaration.stop ≡ declared_at (state_of (homes old) s old.events).clock event
  pub grows : new ≡ record old { events = old.events ++ entry_at s event sent (process_in done.declared) ∷ [] }

-- the first reason of the site s to refuse the event
abbrev pub IsReason : World → ℕ → Event → Refusal → Type 0
IsReason world s event refusal = Refuses (homes world) s (state_of (homes world) s world.events) event refusal

-- what an event at its home does: a step, or a refusal
abbrev pub ActsOn : World → World → ℕ → Event → Reply → Type 0
ActsOn old new s event (Taken done) = Steps old new s event done
ActsOn old new s event (Refused refusal) = IsReason old s event refusal × (new ≡ old)
ActsOn old new s event reply = ⊥

-- a process of no site does nothing
abbrev pub IsUnknown : World → World → Reply → Type 0
IsUnknown old new reply = (reply ≡ Refused UnknownProcess) × (new ≡ old)

-- the link from a to b is cut too
abbrev pub with_cut : World → ℕ → ℕ → World
with_cut world a b = record world { is_cut = λ c d. ((a == c) && (b == d)) || world.is_cut c d }

-- What a command does to the world, and what is answered: an event is for the home of its process; the oldest message of
-- a link is handed to the receiver, who refuses it only where memory ran out; a link is cut, and what is under way on it
-- stays there; a report tells of the run.
abbrev pub CarriesOut : World → World → Command → Reply → Type 0
CarriesOut old new (Act process event) reply =
    MatchOption (home old.topology process) (IsUnknown old new reply) (λ s. ActsOn old new s event reply)
CarriesOut old new (WithdrawAll process) reply =
    MatchOption (home old.topology process) (IsUnknown old new reply)
    (λ s. ActsOn old new s (Withdraw process ((state_of (homes old) s old.events).waits process)) reply)
CarriesOut old new (Deliver a b) BadLink = (joins old.topology a b ≡ false) × (new ≡ old)
CarriesOut old new (Deliver a b) Closed = (joins old.topology a b ≡ true) × (old.is_cut a b ≡ true) × (new ≡ old)
CarriesOut old new (Deliver a b) Empty = IsLink old a b [] × (new ≡ old)
CarriesOut old new (Deliver a b) (Handed frame done) =
    (message : Message) × (behind : List Message) × IsLink old a b (message ∷ behind)
    × (message.frame ≡ frame) × Steps old new b (Got a message.clock message.frame) done
CarriesOut old new (Deliver a b) (Refused refusal) =
    (message : Message) × (behind : List Message) × IsLink old a b (message ∷ behind) × (refusal ≡ Memory) × (new ≡ old)
CarriesOut old new (Cut a b) BadLink = (joins old.topology a b ≡ false) × (new ≡ old)
CarriesOut old new (Cut a b) Closed = (joins old.topology a b ≡ true) × (old.is_cut a b ≡ true) × (new ≡ old)
CarriesOut old new (Cut a b) (Lost lost) =
    (joins old.topology a b ≡ true) × (old.is_cut a b ≡ false) × (lost ≡ length (under_way a b old.events))
    × (new ≡ with_cut old a b)
CarriesOut old new Report (Reported report) = Reports (homes old) old.events report.value × (new ≡ old)
CarriesOut old new command reply = ⊥

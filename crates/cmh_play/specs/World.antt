-- A world that is played: the journals of its sites, what is under way on its links, and what each command does to them.
use Rattle.std.specs.Prelude.{◌≡◌, ◌≢◌, ℕ, ◌<◌, Bool, true, false, ◌&&◌, not, ◌==◌, List, [], ◌∷◌, ◌++◌, length, if◌then◌else◌, Option, None, Some, MatchOption, option_map}
use Rattle.cmh_frames.specs.declared.frame.Frame.{Frame}
use Rattle.cmh_frames.specs.Topology.{Topology, home, is_site}
use Rattle.cmh_frames.specs.declared.event.Event.{Event}
use Rattle.cmh_frames.specs.declared.event.Event.TheVariants.{Got}
use Rattle.cmh_frames.specs.Entries.{Entry}
use Rattle.cmh_frames.specs.Journals.{frames_to, value}
use Rattle.cmh_frames.specs.Rules.{Accepts, Sends}
use Rattle.cmh_controller.specs.Refusals.{Refuses}
use Rattle.cmh_controller.specs.declared.refusal.Refusal.TheVariants.{UnknownProcess}
use Rattle.cmh_journal.specs.Journal.{Journal, entry_limit}
use Rattle.cmh_audit.specs.Journals.{journal_of}
use Rattle.cmh_audit.specs.Verdicts.{IsVerdictOn}
use Rattle.cmh_console.specs.declared.script.Command.{Command}
use Rattle.cmh_console.specs.declared.script.Command.TheVariants.{Act, Deliver, Cut, Report}
use Rattle.cmh_frames.specs.declared.done.Done.{Done}
use Rattle.cmh_play.specs.declared.site.Refused.{Refused}
use Rattle.cmh_play.specs.declared.site.Refused.TheVariants.{Full, Rule}
use Rattle.cmh_play.specs.declared.reply.Reply.{Reply}
use Rattle.cmh_play.specs.declared.reply.Reply.TheVariants.{BadLink, Closed, Empty, Lost, Refused as IsRefused, Taken, Got as GotFrame, Report as Reported}

-- A world that is played, whatever of it is held. A link has the frames that are under way on it from one site to another,
-- the oldest first, or none where it is cut.
pub record World : Type 0 where
  pub topology : Topology
  pub journals : List Journal
  pub links : ℕ → ℕ → Option (List Frame)

-- what the journal of a site holds; nothing, where there is no such site
abbrev pub entries_at : World → ℕ → List Entry
entries_at world s = journal_of world.journals s

-- the link from a to b becomes this one, and each other is as it was
abbrev pub with_link : World → ℕ → ℕ → Option (List Frame) → World
with_link world a b link = record world { links = λ c d. if (a == c) && (b == d) then link else world.links c d }

-- two different sites of the topology
abbrev pub joins : Topology → ℕ → ℕ → Bool
joins t a b = not (a == b) && (is_site t a && is_site t b)

-- there is a link from a to b, and it is this one
abbrev pub IsLink : World → ℕ → ℕ → Option (List Frame) → Type 0
IsLink world a b link = (joins world.topology a b ≡ true) × (world.links a b ≡ link)

-- The site s took the event by the rules of its controller: its journal has the entry after the others, and that of no
-- other site changed. What it sent lies behind what is under way on its links; a link that is cut loses it.
pub record Steps (old new : World) (s : ℕ) (event : Event) (done : Done) : Type 0 where
  pub sent : List (ℕ × Frame)
  pub accepted : Accepts old.topology s (value old.topology s (entries_at old s)) event
  pub sends : Sends old.topology s (value old.topology s (entries_at old s)) event sent done.declared
  pub counted : done.sent ≡ length sent
  pub grows : entries_at new s ≡ entries_at old s ++ record { event = event; sent = sent; declared = done.declared } ∷ []
  pub others : (q : ℕ) → q ≢ s → entries_at new q ≡ entries_at old q
  pub topology : new.topology ≡ old.topology
  pub links : (a b : ℕ) → new.links a b
      ≡ (if s == a then option_map (λ (frames : List Frame). frames ++ frames_to b sent) (old.links a b) else old.links a b)

-- why the site s takes no step: its journal is full, or else its controller refuses the event
abbrev pub IsReason : World → ℕ → Event → Refused → Type 0
IsReason world s event Full = length (entries_at world s) ≡ entry_limit
IsReason world s event (Rule refusal) = (length (entries_at world s) < entry_limit)
    × Refuses world.topology s (value world.topology s (entries_at world s)) event refusal

-- What a command does to the world, and what is answered: an event is for the home of its process; the oldest frame of a
-- link is handed to the receiver, and leaves the link once it is taken; a link is cut; the journals are audited.
abbrev pub CarriesOut : World → World → Command → Reply → Type 0
CarriesOut old new (Act process event) (Taken done) =
    (s : ℕ) × (home old.topology process ≡ Some s) × Steps old new s event done
CarriesOut old new (Act process event) (IsRefused refused) =
    MatchOption (home old.topology process) (refused ≡ Rule UnknownProcess) (λ s. IsReason old s event refused) × (new ≡ old)
CarriesOut old new (Deliver a b) BadLink = (joins old.topology a b ≡ false) × (new ≡ old)
CarriesOut old new (Deliver a b) Closed = IsLink old a b None × (new ≡ old)
CarriesOut old new (Deliver a b) Empty = IsLink old a b (Some []) × (new ≡ old)
CarriesOut old new (Deliver a b) (GotFrame frame done) = (frames : List Frame) × IsLink old a b (Some (frame ∷ frames))
    × Steps (with_link old a b (Some frames)) new b (Got a frame) done
CarriesOut old new (Deliver a b) (IsRefused refused) = (frame : Frame) × (frames : List Frame)
    × IsLink old a b (Some (frame ∷ frames)) × IsReason old b (Got a frame) refused × (new ≡ old)
CarriesOut old new (Cut a b) BadLink = (joins old.topology a b ≡ false) × (new ≡ old)
CarriesOut old new (Cut a b) Closed = IsLink old a b None × (new ≡ old)
CarriesOut old new (Cut a b) (Lost lost) = (frames : List Frame) × IsLink old a b (Some frames)
    × (lost ≡ length frames) × (new ≡ with_link old a b None)
CarriesOut old new Report (Reported edition verdict) =
    (edition ≡ old.topology.edition) × IsVerdictOn old.topology old.journals verdict.value × (new ≡ old)
CarriesOut old new command reply = ⊥

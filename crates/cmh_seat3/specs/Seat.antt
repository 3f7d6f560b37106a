-- A site of edition 3 for a caller that keeps the journal: what it is, and what each call of it comes to. The journal is a
-- segment of epoch 0 that begins with an empty base.
use Rattle.std.specs.Prelude.{◌≡◌, ◌≢◌, ℕ, ◌<◌, ◌≤◌, Bool, true, false, List, [], ◌∷◌, ◌++◌, length, Option, None, Some, IsSome}
use Rattle.cmh_model3.specs.Entries.{Entry as Step}
use Rattle.cmh_model3.specs.Journals.{state_after}
use Rattle.cmh_model3.specs.Rules.{after}
use Rattle.cmh_model3.specs.State.{State, empty_state}
use Rattle.cmh_model3.specs.declared.event.Event.{Event}
use Rattle.cmh_model3.specs.declared.frame.Message.{Message}
use Rattle.cmh_topology3.specs.Topology.{Topology, site_of}
use Rattle.cmh_controller3.specs.Controller.{Controller, IsNew, home_of, state_of}
use Rattle.cmh_controller3.specs.Refusals.{IsElsewhere, Refuses}
use Rattle.cmh_controller3.specs.Replays.{IsLawful}
use Rattle.cmh_controller3.specs.Steps.{IsBackAt, Prepares}
use Rattle.cmh_controller3.specs.declared.outcome.Declaration.{Declaration}
use Rattle.cmh_controller3.specs.declared.prepared.Prepared.{Prepared}
use Rattle.cmh_controller3.specs.declared.refusal.Refusal.TheVariants.{NotHere, UnknownProcess}
use Rattle.cmh_segment3.specs.Base.{empty_base}
use Rattle.cmh_segment3.specs.Chain.{chained, next_mark}
use Rattle.cmh_segment3.specs.Entries.{IsWholeEvent, body_spelling, event_spelling, step_of}
use Rattle.cmh_segment3.specs.Head.{head_mark, marked_head}
use Rattle.cmh_segment3.specs.Segment.{last_mark, longest_entry, segment_spelling}
use Rattle.cmh_segment3.specs.Steps.{entries_from, entry_at}
use Rattle.cmh_segment3.specs.WholeEntries.{HaveEntries, IsStep}
use Rattle.cmh_segment3.specs.declared.entry.Declaration as segment
use Rattle.cmh_segment3.specs.declared.entry.Entry.{Entry}
use Rattle.cmh_segment3.specs.declared.head.Header.{Header}
use Rattle.cmh_seat.specs.Fills.{Fills}
use Rattle.cmh_seat3.specs.declared.fault.SeatFault.{SeatFault}
use Rattle.cmh_seat3.specs.declared.fault.SeatFault.TheVariants.{Prepared as IsPrepared, Full, NoEvent, Rule, Short, Starved}
use Rattle.cmh_seat3.specs.declared.pending.Pending.{Pending}

-- The controller, which stands between two states where an entry is prepared; how many entries were kept, the mark behind
-- them, and the entry that is prepared, if one is.
pub record Seat : Type 0 where
  pub controller : Controller
  pub taken : ℕ
  pub mark : ℕ
  pub pending : Option Pending

-- the header of its journal
abbrev pub header_of : Topology → ℕ → Header
header_of t s = record { site = s; world = t.world; epoch = 0; before = 0 }

-- the bytes with which its journal begins
abbrev pub head_of : Topology → ℕ → List ℕ
head_of t s = marked_head (header_of t s) empty_base

-- how many entries a journal may hold
abbrev pub most_entries : ℕ
most_entries = 1000000

-- The steps are a lawful journal of the site, which leads to the state: so many they are, with this mark behind their entries,
-- and this is the file of the journal.
pub record AreJournal (t : Topology) (s : ℕ) (v : State) (taken mark : ℕ) (steps : List Step) (file : List ℕ) : Type 0 where
  pub lawful : IsLawful t s steps
  pub have_entries : HaveEntries steps
  pub state : v ≡ state_after (site_of t) s empty_state steps
  pub count : taken ≡ length steps
  pub mark_is : mark ≡ last_mark (head_mark (header_of t s) empty_base) (entries_from 0 steps)
  pub file_is : file ≡ segment_spelling (header_of t s) empty_base (entries_from 0 steps)

-- the entries that were kept are those of these steps, in their order, and this is their file
abbrev pub StandsFor : Seat → List Step → List ℕ → Type 0
StandsFor seat steps file =
    AreJournal seat.controller.topology seat.controller.site (state_of seat.controller) seat.taken seat.mark steps file

-- the site of the topology with this number, before its first step
pub record IsFresh (t : Topology) (s : ℕ) (seat : Seat) : Type 0 where
  pub controller : IsNew t s seat.controller
  pub nothing_prepared : seat.pending ≡ None
  pub begins : StandsFor seat [] (head_of t s)

-- both are the same site in the same state, with the same journal
pub record IsUnchanged (old new : Seat) : Type 0 where
  pub controller : IsBackAt old.controller new.controller
  pub taken : new.taken ≡ old.taken
  pub mark : new.mark ≡ old.mark
  pub pending : new.pending ≡ old.pending

-- ---- a step

-- it can take a step: no entry is prepared, and its journal has room for one more
abbrev pub IsReady : Seat → Type 0
IsReady seat = (seat.pending ≡ None) × (seat.taken < most_entries)

-- this is the entry of an event that the controller accepts
pub record IsNext (seat : Seat) (entry : Entry) : Type 0 where
  pub ready : IsReady seat
  pub event : IsWholeEvent entry.event
  pub step : IsStep (home_of seat.controller) seat.controller.site (state_of seat.controller) (step_of entry)
  pub stamped : entry ≡ entry_at (state_of seat.controller).clock (step_of entry)

-- the bytes of an entry, chained to those that were kept
abbrev pub bytes_of : Seat → Entry → List ℕ
bytes_of seat entry = chained seat.mark (body_spelling entry)

-- the declaration as an entry has it
abbrev pub stamped : Declaration → segment.Declaration
stamped d = record { process = d.process; stamp = d.stop }

-- what is prepared, with what it sends
abbrev pub with_sent : Prepared → List (ℕ × Message) → Prepared
with_sent prepared sent = record prepared { outcome = record prepared.outcome { sent = sent } }

-- the entry is prepared, and nothing else has changed
pub record Readies (old : Seat) (entry : Entry) (new : Seat) : Type 0 where
  pub next : IsNext old entry
  pub waiting : Pending
  pub waits : new.pending ≡ Some waiting
  pub entry_is : waiting.entry ≡ entry
  pub mark_is : waiting.mark ≡ next_mark old.mark (body_spelling entry)
  pub prepares : Prepares old.controller entry.event (with_sent waiting.prepared entry.sent) new.controller
  pub taken : new.taken ≡ old.taken
  pub mark : new.mark ≡ old.mark

-- The entry is kept: the controller is after its step, none is prepared, and the journal grows by it, as its file does by
-- the entry's bytes.
pub record Keeps (old : Seat) (entry : Entry) (new : Seat) : Type 0 where
  pub topology : new.controller.topology ≡ old.controller.topology
  pub site : new.controller.site ≡ old.controller.site
  pub state : state_of new.controller
      ≡ after (home_of old.controller) old.controller.site (state_of old.controller) entry.event (step_of entry).declared
  pub pending : new.pending ≡ None
  pub grows : (steps : List Step) (file : List ℕ) → StandsFor old steps file
      → StandsFor new (steps ++ step_of entry ∷ []) (file ++ bytes_of old entry)

-- The bytes are those of an event that the controller accepts. Its entry fills what was lent, and this holds of it.
pub record Wrote (seat : Seat) (event before after : List ℕ) (count : ℕ) (Holds : Entry → Type 0) : Type 0 where
  pub entry : Entry
  pub next : IsNext seat entry
  pub spelled : event ≡ event_spelling entry.event
  pub fills : Fills (bytes_of seat entry) before after count
  pub short : count ≤ longest_entry
  pub holds : Holds entry

-- why an event is not taken: the first reason that holds
abbrev pub NotTook : Seat → List ℕ → ℕ → SeatFault → Type 0
NotTook seat event room IsPrepared = IsSome seat.pending
NotTook seat event room Full = (seat.pending ≡ None) × (seat.taken ≡ most_entries)
NotTook seat event room NoEvent = IsReady seat × ((e : Event) → IsWholeEvent e → event ≢ event_spelling e)
NotTook seat event room (Rule reason) =
    (e : Event) × IsReady seat × IsWholeEvent e × (event ≡ event_spelling e)
    × Refuses (home_of seat.controller) seat.controller.site (state_of seat.controller) e reason
NotTook seat event room (Short needed) =
    (entry : Entry) × IsNext seat entry × (event ≡ event_spelling entry.event)
    × (needed ≡ length (bytes_of seat entry)) × (room < needed) × (needed ≤ longest_entry)
NotTook seat event room Starved = IsReady seat

-- ---- a step that is taken again

-- In this state the site's controller takes the step of the entry, and its declaration names the stop.
pub record IsEntryIn (home : ℕ → ℕ) (s : ℕ) (v : State) (entry : Entry) : Type 0 where
  pub step : IsStep home s v (step_of entry)
  pub stamped : entry ≡ entry_at v.clock (step_of entry)

abbrev pub IsEntryOf : Seat → Entry → Type 0
IsEntryOf seat entry = IsEntryIn (home_of seat.controller) seat.controller.site (state_of seat.controller) entry

-- Whether the entry is that of a step of the site. If so the step is taken and the entry kept; if not nothing has changed.
abbrev pub HasRetaken : Seat → Entry → Bool → Seat → Type 0
HasRetaken old entry true new = IsEntryOf old entry × Keeps old entry new
HasRetaken old entry false new = ¬ IsEntryOf old entry × IsUnchanged old new

-- why a site takes no step, whatever the event
abbrev pub IsNotReady : Seat → SeatFault → Type 0
IsNotReady seat IsPrepared = IsSome seat.pending
IsNotReady seat Full = (seat.pending ≡ None) × (seat.taken ≡ most_entries)
IsNotReady seat Starved = IsReady seat
IsNotReady seat other = ⊥

-- ---- questions

-- why a question about a process is not answered
abbrev pub IsNotToldOf : Seat → ℕ → SeatFault → Type 0
IsNotToldOf seat process IsPrepared = IsSome seat.pending
IsNotToldOf seat process (Rule UnknownProcess) = home_of seat.controller process ≡ 0
IsNotToldOf seat process (Rule NotHere) = IsElsewhere (home_of seat.controller) seat.controller.site process
IsNotToldOf seat process Starved = home_of seat.controller process ≡ seat.controller.site
IsNotToldOf seat process other = ⊥

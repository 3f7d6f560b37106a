-- The laws of runs: no phantom, none missed, and what runs and stops are.
-- In each, `home` gives the processes their sites, whatever they are.
use Rattle.std.specs.Prelude.{◌≡◌, ◌≢◌, ℕ, ◌<◌, ◌≤◌, ◌↔◌, true, false, List, [], ◌∷◌, ◌++◌, length, Option, None, Some}
use Rattle.cmh_model3.specs.declared.frame.Message.{Message}
use Rattle.cmh_model3.specs.declared.event.Event.{Event}
use Rattle.cmh_model3.specs.declared.event.Event.TheVariants.{Got, Turn}
use Rattle.cmh_model3.specs.Entries.{Entry, WorldEvent}
use Rattle.cmh_model3.specs.Lists.{IsAscending, in_list, is_before}
use Rattle.cmh_model3.specs.State.{State, empty_state, is_blocked, waits_for}
use Rattle.cmh_model3.specs.Paths.{IsPath}
use Rattle.cmh_model3.specs.Rules.{Accepts, Sends, clock_limit, most_waits}
use Rattle.cmh_model3.specs.Journals.{LawfulFrom, state_after, message_from, receipts_of, sendings_of}
use Rattle.cmh_model3.specs.Runs.{IsBeginningOf, IsDeclared, IsDrained, IsRun, entries_of, newest_stamp, state_of, under_way}
use Rattle.cmh_model3.specs.Waits.{Waits, IsCycle, OnCycle}
use Rattle.cmh_model3.specs.Stops.{stopped, stop, declared_at}
use Rattle.cmh_model3.specs.Frames.{count, is_reply}

-- ---- no phantom

-- The stop at which the cycle of what an entry declares stood: the entry and its site's clock before it tell which.
abbrev pub stop_of : (ℕ → ℕ) → List WorldEvent → WorldEvent → ℕ
stop_of home before e = declared_at (state_of home e.site before).clock e.entry.event

-- Whom an entry of a run declares lies on a cycle of waits at that stop, which doesn't come after the newest ask of it.
abbrev pub NoPhantom : Type 0
NoPhantom =
    (home : ℕ → ℕ) (before : List WorldEvent) (e : WorldEvent) (rest : List WorldEvent)
    → IsRun home (before ++ e ∷ rest) → (i : ℕ) → e.entry.declared ≡ Some i
    → OnCycle (stop (stop_of home before e) (before ++ e ∷ rest)) i
    × (stop_of home before e ≤ newest_stamp home (before ++ e ∷ []) i)

-- And so it does in each run whose journals are those of the stop.
abbrev pub NoPhantomInAnyOrder : Type 0
NoPhantomInAnyOrder =
    (home : ℕ → ℕ) (before : List WorldEvent) (e : WorldEvent) (rest : List WorldEvent)
    → IsRun home (before ++ e ∷ rest) → (i : ℕ) → e.entry.declared ≡ Some i
    → (others : List WorldEvent) → IsRun home others
    → ((s : ℕ) → entries_of s others ≡ stopped (stop_of home before e) (before ++ e ∷ rest) s) → OnCycle others i

-- ---- none missed

-- x waits for y, and the wait doesn't come after the newest ask of i
abbrev pub WaitsBefore : (ℕ → ℕ) → List WorldEvent → ℕ → ℕ → ℕ → Type 0
WaitsBefore home events i x y =
    Waits events x y × (is_before (newest_stamp home events i) i ((state_of home (home x) events).since x y) x ≡ false)

-- In a drained run i is declared where it lies on a cycle none of whose waits comes after its newest ask, as the owner of
-- the youngest wait of a cycle does.
abbrev pub NoneMissed : Type 0
NoneMissed =
    (home : ℕ → ℕ) (events : List WorldEvent) → IsRun home events → IsDrained events
    → (i next : ℕ) (members : List ℕ) → IsPath (WaitsBefore home events i) i (next ∷ members) i → IsDeclared home events i

-- one of these processes is declared
abbrev pub SomeDeclared : (ℕ → ℕ) → List WorldEvent → List ℕ → Type 0
SomeDeclared home events members = (k : ℕ) × (in_list members k ≡ true) × IsDeclared home events k

-- Of each cycle of a drained run a member is declared.
abbrev pub EachCycleDeclared : Type 0
EachCycleDeclared =
    (home : ℕ → ℕ) (events : List WorldEvent) → IsRun home events → IsDrained events
    → (i next : ℕ) (members : List ℕ) → IsCycle events i next members
    → SomeDeclared home events (next ∷ members)

-- ---- what controllers know of waits

-- no reply of k to j is under way between two sites
abbrev pub NoReplyComes : (ℕ → ℕ) → List WorldEvent → ℕ → ℕ → Type 0
NoReplyComes home events k j =
    home j ≢ home k → count (is_reply k j) (under_way (home k) (home j) events) ≡ 0

-- A wait stands just where its asker's controller keeps it and no reply to it is under way.
abbrev pub EachWait : Type 0
EachWait =
    (home : ℕ → ℕ) (events : List WorldEvent) → IsRun home events → (j k : ℕ)
    → Waits events j k ↔ ((waits_for (state_of home (home j) events) j k ≡ true) × NoReplyComes home events k j)

-- What holds of the state of a lawful journal, whatever the other sites do.
pub record JournalFacts (home : ℕ → ℕ) (s : ℕ) (v : State) : Type 0 where
  -- the site keeps waits of its own processes alone, for other known processes
  pub waits_home : (j k : ℕ) → waits_for v j k ≡ true → (home j ≡ s) × (home k ≢ 0) × (k ≢ j)
  -- those of a process are ascending, and within the limit
  pub waits_ascend : (j : ℕ) → IsAscending (v.waits j)
  pub few_waits : (j : ℕ) → length (v.waits j) ≤ most_waits
  -- what is no wait has no stamp; none is ahead of its asker's, and that is not ahead of the clock
  pub no_stamp : (j k : ℕ) → waits_for v j k ≡ false → v.since j k ≡ 0
  pub stamps : (j k : ℕ) → (v.since j k ≤ v.stamp j) × (v.stamp j ≤ v.clock)
  -- an active process has no marks, and is not declared
  pub no_marks : (k i : ℕ) → is_blocked v k ≡ false → v.marks k i ≡ 0
  pub undeclared : (k : ℕ) → is_blocked v k ≡ false → v.declared k ≡ false
  -- owed replies are those of the site's own processes, and whom one of them is leaving is at another site
  pub owed_home : (k j : ℕ) → v.owed k j ≡ true → home k ≡ s
  pub leaving_away : (j k : ℕ) → v.leaving j k ≡ true → (home j ≡ s) × (home k ≢ s)
  -- between two processes of the site a wait is what is owed
  pub local : (j k : ℕ) → home j ≡ s → home k ≡ s → waits_for v j k ≡ v.owed k j

abbrev pub LawfulStates : Type 0
LawfulStates =
    (home : ℕ → ℕ) (s : ℕ) (journal : List Entry) → LawfulFrom home s empty_state journal
    → JournalFacts home s (state_after home s empty_state journal)

-- Two runs with the same journals have the same waits, in whatever order their entries stand.
abbrev pub OrdersAgree : Type 0
OrdersAgree =
    (home : ℕ → ℕ) (events others : List WorldEvent) → IsRun home events → IsRun home others
    → ((s : ℕ) → entries_of s events ≡ entries_of s others) → (j k : ℕ) → Waits events j k ↔ Waits others j k

-- ---- stops

-- What was got within stop n was sent within it.
abbrev pub StopIsConsistent : Type 0
StopIsConsistent =
    (home : ℕ → ℕ) (events : List WorldEvent) → IsRun home events → (n a b : ℕ)
    → IsBeginningOf (receipts_of a (stopped n events b)) (sendings_of b (stopped n events a))

-- The events of a run within stop n are a run, and of each site they are its entries within the stop.
abbrev pub StopIsRun : Type 0
StopIsRun =
    (home : ℕ → ℕ) (events : List WorldEvent) → IsRun home events → (n : ℕ)
    → IsRun home (stop n events) × ((s : ℕ) → entries_of s (stop n events) ≡ stopped n events s)

-- A site's clock never goes back.
abbrev pub ClocksRise : Type 0
ClocksRise =
    (home : ℕ → ℕ) (s : ℕ) (v : State) (es more : List Entry)
    → (state_after home s v es).clock ≤ (state_after home s v (es ++ more)).clock

-- ---- how runs go on

-- The next message of each link is accepted where it goes.
abbrev pub DeliveriesAccepted : Type 0
DeliveriesAccepted =
    (home : ℕ → ℕ) (events : List WorldEvent) → IsRun home events
    → (a b : ℕ) (m : Message) (behind : List Message) → under_way a b events ≡ m ∷ behind
    → Accepts home b (state_of home b events) (Got a m.clock m.frame)

abbrev pub NothingIsRun : Type 0
NothingIsRun = (home : ℕ → ℕ) → IsRun home []

-- What is accepted, and sends what the rules say, extends a run, if what it got is the next message of its link.
abbrev pub ExtendsRun : Type 0
ExtendsRun =
    (home : ℕ → ℕ) (events : List WorldEvent) (e : WorldEvent) → IsRun home events
    → Accepts home e.site (state_of home e.site events) e.entry.event
    → Sends home e.site (state_of home e.site events) e.entry.event e.entry.sent e.entry.declared
    → ((a : ℕ) → IsBeginningOf (message_from a e.entry.event) (under_way a e.site events))
    → IsRun home (events ++ e ∷ [])

-- The rules give an outcome of each event that is accepted in a run.
abbrev pub SomeOutcome : Type 0
SomeOutcome =
    (home : ℕ → ℕ) (events : List WorldEvent) → IsRun home events
    → (s : ℕ) (event : Event) → Accepts home s (state_of home s events) event
    → (sent : List (ℕ × Message)) × (declared : Option ℕ)
    × Sends home s (state_of home s events) event sent declared

-- And they leave no choice.
abbrev pub OneOutcome : Type 0
OneOutcome =
    (home : ℕ → ℕ) (s : ℕ) (v : State) (event : Event) (sent others : List (ℕ × Message)) (declared other : Option ℕ)
    → Sends home s v event sent declared → Sends home s v event others other → (sent ≡ others) × (declared ≡ other)

-- an entry of site s with this event and outcome
abbrev pub entry_at : ℕ → Event → List (ℕ × Message) → Option ℕ → WorldEvent
entry_at s event sent declared =
    record { site = s; entry = record { event = event; sent = sent; declared = declared } }

-- the run goes on with this event at site s
abbrev pub GoesOnWith : (ℕ → ℕ) → List WorldEvent → ℕ → Event → Type 0
GoesOnWith home events s event =
    (sent : List (ℕ × Message)) × (declared : Option ℕ) × IsRun home (events ++ entry_at s event sent declared ∷ [])

-- So a run goes on with each event of a site's own that is accepted, and with the next message of each link.
abbrev pub RunsGoOn : Type 0
RunsGoOn =
    (home : ℕ → ℕ) (events : List WorldEvent) → IsRun home events
    → ((s : ℕ) (event : Event) → Accepts home s (state_of home s events) event
    → ((a : ℕ) → message_from a event ≡ []) → GoesOnWith home events s event)
    × ((a b : ℕ) (m : Message) (behind : List Message) → under_way a b events ≡ m ∷ behind
    → GoesOnWith home events b (Got a m.clock m.frame))

-- A site's clock can be turned forward at any time, up to the limit, which sends nothing and changes nothing else.
abbrev pub TurnsGoOn : Type 0
TurnsGoOn =
    (home : ℕ → ℕ) (events : List WorldEvent) → IsRun home events
    → (s c : ℕ) → (state_of home s events).clock < c → c < clock_limit
    → IsRun home (events ++ entry_at s (Turn c) [] None ∷ [])
    × (state_of home s (events ++ entry_at s (Turn c) [] None ∷ []) ≡ record (state_of home s events) { clock = c })

-- ---- they are not empty words

-- A deadlock of two processes at two sites is declared in some run.
abbrev pub DeadlockHappens : Type 0
DeadlockHappens =
    (home : ℕ → ℕ) × (before : List WorldEvent) × (e : WorldEvent)
    × IsRun home (before ++ e ∷ []) × (home 1 ≢ home 2) × (e.entry.declared ≡ Some 2)

-- Why a site can't take its next entry.
use Rattle.std.specs.Prelude.{◌≡◌, ◌≢◌, ℕ, ◌-◌, ◌<◌, List, length, map, take, slice_get, Option, None, Some}
use Rattle.std.specs.Option.{option_map}
use Rattle.cmh_model3.specs.declared.event.Event.{Event}
use Rattle.cmh_model3.specs.declared.event.Event.TheVariants.{Got}
use Rattle.cmh_model3.specs.declared.frame.Message.{Message}
use Rattle.cmh_model3.specs.Journals.{receipts_of, sendings_of, state_after}
use Rattle.cmh_model3.specs.Rules.{Accepts, Sends}
use Rattle.cmh_model3.specs.State.{State, empty_state}
use Rattle.cmh_model3.specs.Stops.{declared_at}
use Rattle.cmh_topology3.specs.Topology.{Topology, site_of}
use Rattle.cmh_controller3.specs.Refusals.{Refuses}
use Rattle.cmh_controller3.specs.declared.refusal.Refusal.TheVariants.{Memory}
use Rattle.cmh_segment3.specs.declared.entry.Declaration.{Declaration}
use Rattle.cmh_segment3.specs.declared.entry.Entry.{Entry}
use Rattle.cmh_segment3.specs.declared.segment.Segment.{Segment}
use Rattle.cmh_segment3.specs.Entries.{step_of}
use Rattle.cmh_audit3.specs.Journals.{journal_of}
use Rattle.cmh_audit3.specs.Stops.{before_stop}
use Rattle.cmh_audit3.specs.declared.stops.Stop.{Stop}
use Rattle.cmh_files3.specs.declared.reason.Reason.{Reason}
use Rattle.cmh_files3.specs.declared.reason.Reason.TheVariants.{Refused, Sent, Declared, NotNext, NothingUnderWay}

-- ---- what the rules give

-- the process that is declared
abbrev pub process_of : Option Declaration → Option ℕ
process_of declared = option_map (λ (d : Declaration). d.process) declared

-- In this state the controller of the site accepts the event, sends these messages and declares this process, with the
-- stamp of the stop at which its cycle stood.
pub record Makes (t : Topology) (s : ℕ) (v : State) (event : Event) (sent : List (ℕ × Message)) (declared : Option Declaration)
    : Type 0 where
  pub accepts : Accepts (site_of t) s v event
  pub sends : Sends (site_of t) s v event sent (process_of declared)
  pub stop : (d : Declaration) → declared ≡ Some d → d.stamp ≡ declared_at v.clock event

-- the lists are the same before this place, counted from 1, and differ at it
pub record FirstDiffer (xs ys : List (ℕ × Message)) (number : ℕ) : Type 0 where
  pub counted : 0 < number
  pub before : take (number - 1) xs ≡ take (number - 1) ys
  pub differ : slice_get xs (number - 1) ≢ slice_get ys (number - 1)

-- What is wrong with an entry of a site in this state, whatever the other sites did: its event is refused; it records
-- other messages than the rules send, which send this at the first place that differs; or it records another declaration
-- than the rules give.
abbrev pub IsOwnFault : Topology → ℕ → State → Entry → Reason → Type 0
IsOwnFault t s v e (Refused refusal) = Refuses (site_of t) s v e.event refusal × (refusal ≢ Memory)
IsOwnFault t s v e (Sent number due) =
    (all : List (ℕ × Message)) × (declared : Option Declaration) × Makes t s v e.event all declared
    × FirstDiffer e.sent all number × (due ≡ slice_get all (number - 1))
IsOwnFault t s v e (Declared due) = Makes t s v e.event e.sent due × (e.declared ≢ due)
IsOwnFault t s v e reason = ⊥

-- ---- links

-- where the entries of a site lead
abbrev pub value : Topology → ℕ → List Entry → State
value t s entries = state_after (site_of t) s empty_state (map step_of entries)

-- Where each site holds these entries: the next message of the link from a to b, which is the first that a sent and b has
-- not got.
abbrev pub next_of : (ℕ → List Entry) → ℕ → ℕ → Option Message
next_of held a b = slice_get (sendings_of b (map step_of (held a))) (length (receipts_of a (map step_of (held b))))

-- the rules make the entry, but it got a message from a that is not the next of its link
abbrev pub GotTooEarly : Topology → (ℕ → List Entry) → ℕ → Entry → ℕ → Option Message → Type 0
GotTooEarly t held s e a next =
    (message : Message) × Makes t s (value t s (held s)) e.event e.sent e.declared
    × (e.event ≡ Got a message.clock message.frame) × (next_of held a s ≡ next) × (next ≢ Some message)

-- ---- the reason

-- where each site holds these entries, site s can't take this one next, for this reason
abbrev pub IsReason : Topology → (ℕ → List Entry) → ℕ → Entry → Reason → Type 0
IsReason t held s e (NotNext from next) = GotTooEarly t held s e from (Some next)
IsReason t held s e (NothingUnderWay from) = GotTooEarly t held s e from None
IsReason t held s e reason = IsOwnFault t s (value t s (held s)) e reason

-- ---- stops

-- the entries of each site before its stop
abbrev pub held_before : List Segment → List Stop → ℕ → List Entry
held_before segments stops site = before_stop stops site (journal_of segments site)

-- The reason for which a site can't take the entry at its stop, where each site holds what stands before its own.
abbrev pub IsReasonOf : Topology → List Segment → List Stop → Stop → Reason → Type 0
IsReasonOf t segments stops stop reason =
    (entry : Entry) × (slice_get (journal_of segments stop.site) (stop.entry - 1) ≡ Some entry)
    × IsReason t (held_before segments stops) stop.site entry reason

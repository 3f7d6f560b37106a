-- Why a site can't take its next entry.
use Rattle.std.specs.Prelude.{◌≡◌, ◌≢◌, ℕ, ◌-◌, ◌<◌, List, length, take, slice_get, Option, None, Some}
use Rattle.cmh_frames.specs.declared.frame.Frame.{Frame}
use Rattle.cmh_frames.specs.Topology.{Topology}
use Rattle.cmh_frames.specs.declared.event.Event.{Event}
use Rattle.cmh_frames.specs.declared.event.Event.TheVariants.{Got}
use Rattle.cmh_frames.specs.Entries.{Entry}
use Rattle.cmh_frames.specs.State.{State}
use Rattle.cmh_frames.specs.Rules.{Accepts, Sends}
use Rattle.cmh_frames.specs.Journals.{sendings_of, receipts_of, value}
use Rattle.cmh_controller.specs.Refusals.{Refuses}
use Rattle.cmh_controller.specs.declared.refusal.Refusal.TheVariants.{Memory}
use Rattle.cmh_journal.specs.Journal.{Journal}
use Rattle.cmh_audit.specs.Journals.{journal_of}
use Rattle.cmh_audit.specs.Stops.{before_stop}
use Rattle.cmh_files.specs.declared.reason.Reason.{Reason}
use Rattle.cmh_files.specs.declared.reason.Reason.TheVariants.{Refused, Sent, Declared, NotNext, NothingUnderWay}

-- ---- what the rules give

-- in this state the controller of the site accepts the event, sends these frames and declares this process
abbrev pub Makes : Topology → ℕ → State → Event → List (ℕ × Frame) → Option ℕ → Type 0
Makes t s v event sent declared = Accepts t s v event × Sends t s v event sent declared

-- the lists are the same before this place, counted from 1, and differ at it
pub record FirstDiffer (xs ys : List (ℕ × Frame)) (number : ℕ) : Type 0 where
  pub counted : 0 < number
  pub before : take (number - 1) xs ≡ take (number - 1) ys
  pub differ : slice_get xs (number - 1) ≢ slice_get ys (number - 1)

-- What is wrong with an entry of a site in this state, whatever the other sites did: its event is refused; it records
-- other frames than the rules send, which send this at the first place that differs; or it records another declaration
-- than the rules give.
abbrev pub IsOwnFault : Topology → ℕ → State → Entry → Reason → Type 0
IsOwnFault t s v e (Refused refusal) = Refuses t s v e.event refusal × (refusal ≢ Memory)
IsOwnFault t s v e (Sent number due) =
    (all : List (ℕ × Frame)) × (declared : Option ℕ) × Makes t s v e.event all declared
    × FirstDiffer e.sent all number × (due ≡ slice_get all (number - 1))
IsOwnFault t s v e (Declared due) = Makes t s v e.event e.sent due × (e.declared ≢ due)
IsOwnFault t s v e reason = ⊥

-- ---- links

-- Where each site holds these entries: the next frame of the link from a to b, which is the first that a sent and b
-- has not got.
abbrev pub next_of : (ℕ → List Entry) → ℕ → ℕ → Option Frame
next_of held a b = slice_get (sendings_of b (held a)) (length (receipts_of a (held b)))

-- the rules make the entry, but it got a frame from a that is not the next of its link
abbrev pub GotTooEarly : Topology → (ℕ → List Entry) → ℕ → Entry → ℕ → Option Frame → Type 0
GotTooEarly t held s e a next =
    (frame : Frame) × Makes t s (value t s (held s)) e.event e.sent e.declared
    × (e.event ≡ Got a frame) × (next_of held a s ≡ next) × (next ≢ Some frame)

-- ---- the reason

-- where each site holds these entries, site s can't take this one next, for this reason
abbrev pub IsReason : Topology → (ℕ → List Entry) → ℕ → Entry → Reason → Type 0
IsReason t held s e (NotNext from next) = GotTooEarly t held s e from (Some next)
IsReason t held s e (NothingUnderWay from) = GotTooEarly t held s e from None
IsReason t held s e reason = IsOwnFault t s (value t s (held s)) e reason

-- ---- stops

-- the entries of each site before its stop
abbrev pub held_before : List Journal → List (ℕ × ℕ) → ℕ → List Entry
held_before journals stops site = before_stop stops site (journal_of journals site)

-- The reason for which a site can't take the entry at its stop, where each site holds what stands before its own.
abbrev pub IsReasonOf : Topology → List Journal → List (ℕ × ℕ) → ℕ × ℕ → Reason → Type 0
IsReasonOf t journals stops stop reason =
    (entry : Entry) × (slice_get (journal_of journals stop.0) (stop.1 - 1) ≡ Some entry)
    × IsReason t (held_before journals stops) stop.0 entry reason

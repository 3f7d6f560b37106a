-- What stands before the stops, and why no site takes the entry at its stop.
use Rattle.std.proofs.Common.{◌≡◌, ◌≢◌, ℕ, zero, suc, ◌+◌, ◌-◌, ◌<◌, ◌≤◌, ◌==◌, Bool, true, false, List, [], ◌∷◌, ◌++◌, length, map, take, drop, get_or, Option, None, Some, if◌then◌else◌, inl, inr, refl, sym, ap, subst, ◌∙◌, arith, append-nil, take-append-drop, length-append}
use Rattle.std.specs.Prelude.{All, Contains, slice_get}
use Rattle.std.specs.Option.{option_map}
use Rattle.std.specs.List.{AllByRecursion, AllPairs}
use Rattle.std.proofs.lemmas.Bool.{cases_eq, eq-eqb, ne_eqb}
use Rattle.std.proofs.lemmas.List.{get_or-map, length-map}
use Rattle.std.proofs.lemmas.List.Kept.{AllPairs-from_increasing}
use Rattle.std.proofs.lemmas.Option.{slice_get_read}
use Rattle.cmh_runs.proofs.Beginnings.{beginning_nil}
use Rattle.cmh_runs.proofs.Journals.{entries_here, entries_elsewhere, entries_of-append}
use Rattle.cmh_model3.specs.declared.event.Event.{Event}
use Rattle.cmh_model3.specs.declared.event.Event.TheVariants.{Ask, Reply, Withdraw, Got, Turn}
use Rattle.cmh_model3.specs.declared.frame.Frame.{Frame}
use Rattle.cmh_model3.specs.declared.frame.Message.{Message}
use Rattle.cmh_model3.specs.Entries.{WorldEvent}
use Rattle.cmh_model3.specs.Journals.{LawfulFrom, message_from, receipts_of, sendings_of, state_after}
use Rattle.cmh_model3.specs.Laws.{ExtendsRun}
use Rattle.cmh_model3.specs.Rules.{Accepts, Sends}
use Rattle.cmh_model3.specs.Runs.{IsBeginningOf, entries_of, state_of, under_way}
use Rattle.cmh_model3.specs.State.{State, empty_state}
use Rattle.cmh_model3.specs.Stops.{declared_at}
use Rattle.cmh_topology3.specs.Topology.{Topology, site_of}
use Rattle.cmh_segment3.specs.declared.entry.Declaration.{Declaration}
use Rattle.cmh_segment3.specs.declared.entry.Entry.{Entry}
use Rattle.cmh_segment3.specs.declared.segment.Segment.{Segment}
use Rattle.cmh_segment3.specs.Entries.{step_of}
use Rattle.cmh_segment3.specs.Steps.{entries_from, entry_at}
use Rattle.cmh_segment3.proofs.WholeEntries.{steps_come_back}
use Rattle.cmh_audit3.specs.Inner.Lawful.{AreLawful}
use Rattle.cmh_audit3.specs.Journals.{journal_of}
use Rattle.cmh_audit3.specs.Stops.{AreStops, IsStop, before_stop}
use Rattle.cmh_audit3.specs.declared.stops.Stop.{Stop}
use Rattle.cmh_audit3.proofs.Lengths.{entries-append}
use Rattle.cmh_files3.specs.Inner.Parts.{awaits}
use Rattle.cmh_files3.specs.Reasons.{Makes, IsOwnFault, IsReason, held_before, next_of, process_of, value}
use Rattle.cmh_files3.specs.declared.reason.Reason.{Reason}
use Rattle.cmh_files3.specs.declared.reason.Reason.TheVariants.{Refused, Sent, Declared, NotNext, NothingUnderWay}
use Rattle.cmh_files3.proofs.TurnLemmas.{take_next}

-- ---- what stands before a stop

cut : (x : Stop) (stops : List Stop) (stop : Stop) (es : List Entry) → x ≡ stop → before_stop (x ∷ stops) stop.site es ≡ take (stop.entry - 1) es
cut x stops stop es is =
    ap (λ (y : Stop). if y.site == stop.site then take (y.entry - 1) es else before_stop stops stop.site es) is
    ∙ ap (λ b. if b then take (stop.entry - 1) es else before_stop stops stop.site es) (eq-eqb stop.site stop.site refl)

cut_at : (stops : List Stop) (stop : Stop) (es : List Entry) → AllPairs (λ x y. x < y) (map (λ (x : Stop). x.site) stops)
    → (k : ℕ) → k < length stops → get_or stops k stop ≡ stop → before_stop stops stop.site es ≡ take (stop.entry - 1) es
cut_at [] stop es pairs k within is = absurd (omega arith)
cut_at (x ∷ stops) stop es pairs zero within is = cut x stops stop es is
cut_at (x ∷ stops) stop es pairs (suc k) within is =
    let less : k < length stops = omega arith in
    let at : get_or (map (λ (y : Stop). y.site) stops) k 0 ≡ stop.site = get_or-map (λ (y : Stop). y.site) stops k stop 0 less ∙ ap (λ (y : Stop). y.site) is in
    let long : length (map (λ (y : Stop). y.site) stops) ≡ length stops = length-map stops (λ (y : Stop). y.site) in
    let below : x.site < get_or (map (λ (y : Stop). y.site) stops) k 0 = pairs 0 (suc k) 0 (omega arith) (omega (arith, long)) in
    let apart : x.site ≢ stop.site = λ h. absurd (omega (arith, h, at, below)) in
    ap (λ b. if b then take (x.entry - 1) es else before_stop stops stop.site es) (ne_eqb x.site stop.site apart)
    ∙ cut_at stops stop es (λ i j d l m. pairs (suc i) (suc j) d (omega arith) (omega arith)) k less is

pub stop_cuts : (t : Topology) (gs : List Segment) (stops : List Stop) (stop : Stop) → AreStops t gs stops → Contains stops stop
    → held_before gs stops stop.site ≡ take (stop.entry - 1) (journal_of gs stop.site)
stop_cuts t gs stops stop are one =
    cut_at stops stop (journal_of gs stop.site) (AllPairs-from_increasing (map (λ (x : Stop). x.site) stops) are.ascending) one.0 one.1 one.2

begins_if : (b : Bool) (n : ℕ) (es xs : List Entry) → IsBeginningOf xs es → IsBeginningOf (if b then take n es else xs) es
begins_if true n es xs h = (drop n es, take-append-drop n es)
begins_if false n es xs h = h

before_begins : (stops : List Stop) (s : ℕ) (es : List Entry) → IsBeginningOf (before_stop stops s es) es
before_begins [] s es = ([], append-nil es)
before_begins (x ∷ stops) s es = begins_if (x.site == s) (x.entry - 1) es (before_stop stops s es) (before_begins stops s es)

-- ---- the steps of a run that stands before the stops

module _ (t : Topology) (gs : List Segment) (stops : List Stop) (are : AreStops t gs stops) where
  abbrev held : ℕ → List Entry
  held = held_before gs stops

  held_steps : (x : ℕ) → map step_of (held x) ≡ entries_of x are.comes.0
  held_steps x = ap (map step_of) (sym (are.comes.2 x)) ∙ steps_come_back 0 (entries_of x are.comes.0)

  held_stamps : (x : ℕ) → entries_from 0 (map step_of (held x)) ≡ held x
  held_stamps x = ap (entries_from 0) (held_steps x) ∙ are.comes.2 x

  pub held_lawful : (s : ℕ) → AreLawful t s (held s)
  held_lawful s = record {
    steps = subst (λ xs. LawfulFrom (site_of t) s empty_state xs) (sym (held_steps s)) (are.comes.1.lawful s);
    stamps = held_stamps s;
  }

-- ---- the entry at a stop

stamped : (declared : Option Declaration) (n : ℕ) → ((d : Declaration) → declared ≡ Some d → d.stamp ≡ n)
    → option_map (λ i. record { process = i; stamp = n }) (process_of declared) ≡ declared
stamped None n stop = refl
stamped (Some d) n stop = λ i. Some (record { process = d.process; stamp = sym (stop d refl) i })

-- what the rules make is the entry of its step
same_entry : (t : Topology) (s : ℕ) (v : State) (e : Entry) → Makes t s v e.event e.sent e.declared → entry_at v.clock (step_of e) ≡ e
same_entry t s v e makes = λ j. record {
  event = e.event;
  sent = e.sent;
  declared = stamped e.declared (declared_at v.clock e.event) makes.stop j;
}

module _ (t : Topology) (grows : ExtendsRun) (gs : List Segment) (stops : List Stop) (are : AreStops t gs stops) (stop : Stop) (one : Contains stops stop)
    (e : Entry) (within : stop.entry - 1 < length (journal_of gs stop.site)) (is : e ≡ get_or (journal_of gs stop.site) (stop.entry - 1) e)
    (makes : Makes t stop.site (value t stop.site (held_before gs stops stop.site)) e.event e.sent e.declared) where
  abbrev s : ℕ
  s = stop.site

  abbrev before : ℕ → List Entry
  before = held_before gs stops

  abbrev event : WorldEvent
  event = record { site = s; entry = step_of e }

  abbrev grown : List WorldEvent
  grown = are.comes.0 ++ event ∷ []

  longer : before s ++ e ∷ [] ≡ take (stop.entry - 1 + 1) (journal_of gs s)
  longer = ap (λ es. es ++ e ∷ []) (stop_cuts t gs stops stop are one) ∙ sym (take_next (journal_of gs s) (stop.entry - 1) e within is)

  here : entries_of s grown ≡ map step_of (before s) ++ step_of e ∷ []
  here = entries_of-append s are.comes.0 (event ∷ []) ∙ ap (λ es. entries_of s are.comes.0 ++ es) (entries_here s event [] refl)
      ∙ ap (λ es. es ++ step_of e ∷ []) (sym (held_steps t gs stops are s))

  entries_there : entries_from 0 (entries_of s grown) ≡ before s ++ e ∷ []
  entries_there =
      ap (entries_from 0) here ∙ entries-append (site_of t) s empty_state (map step_of (before s)) (step_of e ∷ [])
      ∙ ap (λ es. es ++ entry_at (value t s (before s)).clock (step_of e) ∷ []) (held_stamps t gs stops are s)
      ∙ ap (λ x. before s ++ x ∷ []) (same_entry t s (value t s (before s)) e makes)

  there : (x : ℕ) → s ≢ x → entries_from 0 (entries_of x grown) ≡ before x
  there x apart =
      ap (entries_from 0)
      (entries_of-append x are.comes.0 (event ∷ []) ∙ ap (λ es. entries_of x are.comes.0 ++ es) (entries_elsewhere x event [] apart)
      ∙ append-nil (entries_of x are.comes.0))
      ∙ are.comes.2 x

  inside : (x : ℕ) → IsBeginningOf (entries_from 0 (entries_of x grown)) (journal_of gs x)
  inside x = elim (cases_eq s x) [
    | inl same ↦
        let P : ℕ → Type 0 = λ y. IsBeginningOf (entries_from 0 (entries_of y grown)) (journal_of gs y) in
        let Q : List Entry → Type 0 = λ es. IsBeginningOf es (journal_of gs s) in
        subst P same (subst Q (sym (entries_there ∙ longer)) (drop (stop.entry - 1 + 1) (journal_of gs s), take-append-drop (stop.entry - 1 + 1) (journal_of gs s)))
    | inr apart ↦
        let Q : List Entry → Type 0 = λ es. IsBeginningOf es (journal_of gs x) in
        subst Q (sym (there x apart)) (before_begins stops x (journal_of gs x))
  ]

  -- what it would take from each link
  abbrev coming : ℕ → List Message
  coming a = drop (length (receipts_of a (map step_of (before s)))) (sendings_of s (map step_of (before a)))

  -- were its messages next of their links, there would be a longer run
  pub not_taken : ((a : ℕ) → IsBeginningOf (message_from a e.event) (coming a)) → ⊥
  not_taken next =
      let state : value t s (before s) ≡ state_of (site_of t) s are.comes.0 = ap (state_after (site_of t) s empty_state) (held_steps t gs stops are s) in
      let accepted = subst (λ v. Accepts (site_of t) s v e.event) state makes.accepts in
      let sends = subst (λ v. Sends (site_of t) s v e.event e.sent (process_of e.declared)) state makes.sends in
      let on_link : (a : ℕ) → IsBeginningOf (message_from a e.event) (under_way a s are.comes.0) = λ a.
      subst (λ es. IsBeginningOf (message_from a e.event) (drop (length (receipts_of a es)) (sendings_of s (entries_of a are.comes.0)))) (held_steps t gs stops are s)
      (subst (λ es. IsBeginningOf (message_from a e.event) (drop (length (receipts_of a (map step_of (before s)))) (sendings_of s es))) (held_steps t gs stops are a) (next a)) in
      let run = grows (site_of t) are.comes.0 event are.comes.1 accepted sends on_link in
      let most : length (entries_of s grown) ≤ length (before s) = are.most grown run inside s in
      let more : length (entries_of s grown) ≡ length (before s) + 1 = ap length here ∙ length-append (map step_of (before s)) (step_of e ∷ []) ∙ ap (λ n. n + 1) (length-map (before s) step_of) in
      absurd (omega (arith, most, more))

  front : (xs : List Message) (k : ℕ) (m : Message) → slice_get xs k ≡ Some m → IsBeginningOf (m ∷ []) (drop k xs)
  front [] k m h = absurd (cc h)
  front (x ∷ xs) zero m h = let same : x ≡ m = cc h in (xs, ap (λ y. y ∷ xs) (sym same))
  front (x ∷ xs) (suc k) m h = front xs k m h

  got_first : (from : ℕ) (m : Message) (xs : ℕ → List Message) (k : ℕ → ℕ) (a : ℕ) → slice_get (xs from) (k from) ≡ Some m
      → IsBeginningOf (if from == a then m ∷ [] else []) (drop (k a) (xs a))
  got_first from m xs k a h = elim (cases_eq from a) [
    | inl same ↦
        subst (λ b. IsBeginningOf (if b then m ∷ [] else []) (drop (k a) (xs a))) (sym (eq-eqb from a same))
        (subst (λ y. IsBeginningOf (m ∷ []) (drop (k y) (xs y))) same (front (xs from) (k from) m h))
    | inr apart ↦
        subst (λ b. IsBeginningOf (if b then m ∷ [] else []) (drop (k a) (xs a))) (sym (ne_eqb from a apart)) (beginning_nil (drop (k a) (xs a)))
  ]

  -- the message that it got is not the next of its link
  pub not_next : (from clock : ℕ) (frame : Frame) → e.event ≡ Got from clock frame → next_of before from s ≢ Some (record { clock = clock; frame = frame })
  not_next from clock frame got next =
      not_taken (λ a. subst (λ (x : Event). IsBeginningOf (message_from a x) (coming a)) (sym got)
      (got_first from (record { clock = clock; frame = frame }) (λ y. sendings_of s (map step_of (before y))) (λ y. length (receipts_of y (map step_of (before s)))) a next))

  -- and it got one
  pub got_some : ((a : ℕ) → message_from a e.event ≡ []) → ⊥
  got_some none =
      not_taken (λ a. subst (λ ms. IsBeginningOf ms (coming a)) (sym (none a)) (beginning_nil (coming a)))

-- ---- a stop is within its journal

all_from_each : (P : Stop → Type 0) (xs : List Stop) → AllByRecursion P xs → (i : ℕ) (d : Stop) → i < length xs → P (get_or xs i d)
all_from_each P [] all i d l = absurd (omega (arith, l))
all_from_each P (x ∷ xs) all zero d l = all.0
all_from_each P (x ∷ xs) all (suc i) d l = all_from_each P xs all.1 i d (omega (arith, l))

pub stops_fit : (t : Topology) (gs : List Segment) (stops : List Stop) → AreStops t gs stops
    → All (λ (stop : Stop). (1 ≤ stop.entry) × (stop.entry ≤ length (journal_of gs stop.site))) stops
stops_fit t gs stops are = λ i d l. let at = all_from_each (IsStop t gs) stops are.each i d l in (at.least, at.within)

pub stop_within : (t : Topology) (gs : List Segment) (stops : List Stop) (stop : Stop) → AreStops t gs stops → Contains stops stop
    → (1 ≤ stop.entry) × (stop.entry ≤ length (journal_of gs stop.site))
stop_within t gs stops stop are one =
    subst (λ (x : Stop). (1 ≤ x.entry) × (x.entry ≤ length (journal_of gs x.site))) one.2 (stops_fit t gs stops are one.0 stop one.1)

pub stop_listed : (stops : List Stop) (i : ℕ) (stop : Stop) → i < length stops → stop ≡ get_or stops i stop → Contains stops stop
stop_listed stops i stop within is = (i, within, sym is)

-- the entry that is read there
pub record Read (gs : List Segment) (stop : Stop) (e : Entry) : Type 0 where
  pub within : stop.entry - 1 < length (journal_of gs stop.site)
  pub is : e ≡ get_or (journal_of gs stop.site) (stop.entry - 1) e
  pub stands : slice_get (journal_of gs stop.site) (stop.entry - 1) ≡ Some e

pub entry_read : (t : Topology) (gs : List Segment) (stops : List Stop) (stop : Stop) (es : List Entry) (e : Entry) → AreStops t gs stops
    → Contains stops stop → es ≡ journal_of gs stop.site → e ≡ get_or es (stop.entry - 1) e → Read gs stop e
entry_read t gs stops stop es e are one same read =
    let fits = stop_within t gs stops stop are one in
    let low = fits.0 in
    let high = fits.1 in
    let within : stop.entry - 1 < length (journal_of gs stop.site) = omega (arith, low, high) in
    let is : e ≡ get_or (journal_of gs stop.site) (stop.entry - 1) e = subst (λ (l : List Entry). e ≡ get_or l (stop.entry - 1) e) same read in
    record { within = within; is = is; stands = slice_get_read (journal_of gs stop.site) (length (journal_of gs stop.site)) (stop.entry - 1) e refl within is }

-- ---- the reason

pub own_reason : (t : Topology) (held : ℕ → List Entry) (s : ℕ) (e : Entry) (reason : Reason)
    → IsOwnFault t s (value t s (held s)) e reason → IsReason t held s e reason
own_reason t held s e (Refused refusal) fault = fault
own_reason t held s e (Sent number due) fault = fault
own_reason t held s e (Declared due) fault = fault
own_reason t held s e (NotNext from next) fault = absurd fault
own_reason t held s e (NothingUnderWay from) fault = absurd fault

pub waits_reason : (t : Topology) (held : ℕ → List Entry) (s : ℕ) (e : Entry) (from clock : ℕ) (frame : Frame) (next : Option Message)
    → Makes t s (value t s (held s)) e.event e.sent e.declared → e.event ≡ Got from clock frame
    → next_of held from s ≡ next → next ≢ Some (record { clock = clock; frame = frame }) → IsReason t held s e (awaits from next)
waits_reason t held s e from clock frame None makes got is other =
    (record { clock = clock; frame = frame }, makes, got, is, other)
waits_reason t held s e from clock frame (Some next) makes got is other =
    (record { clock = clock; frame = frame }, makes, got, is, other)

pub no_message : (event : Event) → ((from clock : ℕ) (frame : Frame) → event ≡ Got from clock frame → ⊥) → (a : ℕ) → message_from a event ≡ []
no_message (Ask asker targets) not a = refl
no_message (Reply holder asker) not a = refl
no_message (Withdraw asker targets) not a = refl
no_message (Turn clock) not a = refl
no_message (Got from clock frame) not a = absurd (not from clock frame refl)

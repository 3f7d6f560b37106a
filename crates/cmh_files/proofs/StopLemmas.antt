-- What stands before the stops, and why no site takes the entry at its stop.
use Rattle.std.proofs.Common.{◌≡◌, ◌≢◌, ℕ, zero, suc, ◌+◌, ◌-◌, ◌<◌, ◌≤◌, ◌==◌, Bool, true, false, List, [], ◌∷◌, ◌++◌, length, map, take, drop, get_or, Option, None, Some, if◌then◌else◌, inl, inr, refl, sym, ap, subst, ◌∙◌, arith, append-nil, take-append-drop, length-append}
use Rattle.std.specs.Prelude.{Contains, slice_get}
use Rattle.std.specs.List.{AllPairs}
use Rattle.std.proofs.lemmas.Bool.{cases_eq, eq-eqb, ne_eqb}
use Rattle.std.proofs.lemmas.List.{get_or-map, length-map}
use Rattle.std.proofs.lemmas.List.Kept.{AllPairs-from_increasing}
use Rattle.cmh_frames.specs.declared.frame.Frame.{Frame}
use Rattle.cmh_frames.specs.Topology.{Topology}
use Rattle.cmh_frames.specs.declared.event.Event.{Event}
use Rattle.cmh_frames.specs.declared.event.Event.TheVariants.{Ask, Reply, Start, Got}
use Rattle.cmh_frames.specs.Entries.{Entry, WorldEvent}
use Rattle.cmh_frames.specs.Rules.{Accepts, Sends}
use Rattle.cmh_frames.specs.Journals.{IsLawful, value, frame_from, sendings_of, receipts_of}
use Rattle.cmh_frames.specs.Runs.{IsBeginningOf, IsRun, entries_of, state_of, under_way}
use Rattle.cmh_frames.proofs.Beginnings.{beginning_nil}
use Rattle.cmh_frames.proofs.Journals.{entries_here, entries_elsewhere, entries_of-append}
use Rattle.cmh_journal.specs.Journal.{Journal}
use Rattle.cmh_audit.specs.Journals.{journal_of}
use Rattle.cmh_audit.specs.Stops.{AreStops, before_stop}
use Rattle.cmh_files.specs.Reasons.{Makes, IsOwnFault, IsReason, next_of, held_before}
use Rattle.cmh_files.specs.Inner.Parts.{awaits}
use Rattle.cmh_files.specs.declared.reason.Reason.{Reason}
use Rattle.cmh_files.specs.declared.reason.Reason.TheVariants.{Refused, Sent, Declared, NotNext, NothingUnderWay}
use Rattle.std.proofs.lemmas.Option.{slice_get_read}
use Rattle.cmh_files.proofs.TurnLemmas.{take_next}

-- a run grows by an accepted entry whose frame, if it got one, is the next of its link
abbrev pub Grows : Topology → Type 0
Grows t = (before : List WorldEvent) (e : WorldEvent) → IsRun t before
    → Accepts t e.site (state_of t e.site before) e.entry.event
    → Sends t e.site (state_of t e.site before) e.entry.event e.entry.sent e.entry.declared
    → ((a : ℕ) → IsBeginningOf (frame_from a e.entry.event) (under_way a e.site before))
    → IsRun t (before ++ e ∷ [])

-- ---- what stands before a stop

cut : (x : ℕ × ℕ) (stops : List (ℕ × ℕ)) (s n : ℕ) (es : List Entry) → x ≡ (s, n) → before_stop (x ∷ stops) s es ≡ take (n - 1) es
cut x stops s n es is =
    ap (λ (y : ℕ × ℕ). if y.0 == s then take (y.1 - 1) es else before_stop stops s es) is
    ∙ ap (λ b. if b then take (n - 1) es else before_stop stops s es) (eq-eqb s s refl)

cut_at : (stops : List (ℕ × ℕ)) (s n : ℕ) (es : List Entry) → AllPairs (λ x y. x < y) (map (λ (stop : ℕ × ℕ). stop.0) stops)
    → (k : ℕ) → k < length stops → get_or stops k (s, n) ≡ (s, n) → before_stop stops s es ≡ take (n - 1) es
cut_at [] s n es pairs k within is = absurd (omega arith)
cut_at (x ∷ stops) s n es pairs zero within is = cut x stops s n es is
cut_at (x ∷ stops) s n es pairs (suc k) within is =
    let less : k < length stops = omega arith in
    let at : get_or (map (λ (stop : ℕ × ℕ). stop.0) stops) k 0 ≡ s = get_or-map (λ (stop : ℕ × ℕ). stop.0) stops k (s, n) 0 less ∙ ap (λ (y : ℕ × ℕ). y.0) is in
    let long : length (map (λ (stop : ℕ × ℕ). stop.0) stops) ≡ length stops = simp length-map in
    let below : x.0 < get_or (map (λ (stop : ℕ × ℕ). stop.0) stops) k 0 = pairs 0 (suc k) 0 (omega arith) (omega (arith, long)) in
    let apart : x.0 ≢ s = λ h. absurd (omega (arith, h, at, below)) in
    ap (λ b. if b then take (x.1 - 1) es else before_stop stops s es) (ne_eqb x.0 s apart)
    ∙ cut_at stops s n es (λ i j d l m. pairs (suc i) (suc j) d (omega arith) (omega arith)) k less is

pub stop_cuts : (t : Topology) (js : List Journal) (stops : List (ℕ × ℕ)) (s n : ℕ) → AreStops t js stops → Contains stops (s, n)
    → held_before js stops s ≡ take (n - 1) (journal_of js s)
stop_cuts t js stops s n are one =
    cut_at stops s n (journal_of js s) (AllPairs-from_increasing (map (λ (stop : ℕ × ℕ). stop.0) stops) are.ascending) one.0 one.1 one.2

begins_if : (b : Bool) (n : ℕ) (es xs : List Entry) → IsBeginningOf xs es → IsBeginningOf (if b then take n es else xs) es
begins_if true n es xs h = (drop n es, take-append-drop n es)
begins_if false n es xs h = h

before_begins : (stops : List (ℕ × ℕ)) (s : ℕ) (es : List Entry) → IsBeginningOf (before_stop stops s es) es
before_begins [] s es = ([], append-nil es)
before_begins (x ∷ stops) s es = begins_if (x.0 == s) (x.1 - 1) es (before_stop stops s es) (before_begins stops s es)

pub held_lawful : (t : Topology) (js : List Journal) (stops : List (ℕ × ℕ)) (s : ℕ) → AreStops t js stops → IsLawful t s (held_before js stops s)
held_lawful t js stops s are = subst (IsLawful t s) (are.comes.2 s) (are.comes.1.lawful s)

-- ---- the entry at a stop

module _ (t : Topology) (grows : Grows t) (js : List Journal) (stops : List (ℕ × ℕ)) (are : AreStops t js stops) (s n : ℕ) (one : Contains stops (s, n))
    (e : Entry) (within : n - 1 < length (journal_of js s)) (is : e ≡ get_or (journal_of js s) (n - 1) e)
    (makes : Makes t s (value t s (held_before js stops s)) e.event e.sent e.declared) where
  longer : held_before js stops s ++ e ∷ [] ≡ take (n - 1 + 1) (journal_of js s)
  longer = ap (λ es. es ++ e ∷ []) (stop_cuts t js stops s n are one) ∙ sym (take_next (journal_of js s) (n - 1) e within is)

  here : entries_of s (are.comes.0 ++ record { site = s; entry = e } ∷ []) ≡ held_before js stops s ++ e ∷ []
  here = entries_of-append s are.comes.0 (record { site = s; entry = e } ∷ []) ∙ ap (λ es. entries_of s are.comes.0 ++ es) (entries_here s (record { site = s; entry = e }) [] refl)
      ∙ ap (λ es. es ++ e ∷ []) (are.comes.2 s)

  there : (x : ℕ) → s ≢ x → entries_of x (are.comes.0 ++ record { site = s; entry = e } ∷ []) ≡ held_before js stops x
  there x apart = entries_of-append x are.comes.0 (record { site = s; entry = e } ∷ []) ∙ ap (λ es. entries_of x are.comes.0 ++ es) (entries_elsewhere x (record { site = s; entry = e }) [] apart)
      ∙ append-nil (entries_of x are.comes.0) ∙ are.comes.2 x

  inside : (x : ℕ) → IsBeginningOf (entries_of x (are.comes.0 ++ record { site = s; entry = e } ∷ [])) (journal_of js x)
  inside x = elim (cases_eq s x) [
    | inl same ↦
        let P : ℕ → Type 0 = λ y. IsBeginningOf (entries_of y (are.comes.0 ++ record { site = s; entry = e } ∷ [])) (journal_of js y) in
        let Q : List Entry → Type 0 = λ es. IsBeginningOf es (journal_of js s) in
        subst P same (subst Q (sym (here ∙ longer)) (drop (n - 1 + 1) (journal_of js s), take-append-drop (n - 1 + 1) (journal_of js s)))
    | inr apart ↦
        let Q : List Entry → Type 0 = λ es. IsBeginningOf es (journal_of js x) in
        subst Q (sym (there x apart)) (before_begins stops x (journal_of js x))
  ]

  -- were its frames next of their links, there would be a longer run
  pub not_taken : ((a : ℕ) → IsBeginningOf (frame_from a e.event) (drop (length (receipts_of a (held_before js stops s))) (sendings_of s (held_before js stops a)))) → ⊥
  not_taken next =
      let state : value t s (held_before js stops s) ≡ state_of t s are.comes.0 = ap (value t s) (sym (are.comes.2 s)) in
      let accepted = subst (λ v. Accepts t s v e.event) state makes.0 in
      let sends = subst (λ v. Sends t s v e.event e.sent e.declared) state makes.1 in
      let on_link : (a : ℕ) → IsBeginningOf (frame_from a e.event) (under_way a s are.comes.0) = λ a.
      subst (λ es. IsBeginningOf (frame_from a e.event) (drop (length (receipts_of a es)) (sendings_of s (entries_of a are.comes.0)))) (sym (are.comes.2 s))
      (subst (λ es. IsBeginningOf (frame_from a e.event) (drop (length (receipts_of a (held_before js stops s))) (sendings_of s es))) (sym (are.comes.2 a)) (next a)) in
      let grown = grows are.comes.0 (record { site = s; entry = e }) are.comes.1 accepted sends on_link in
      let most : length (entries_of s (are.comes.0 ++ record { site = s; entry = e } ∷ [])) ≤ length (held_before js stops s) = are.most _ grown inside s in
      let more : length (entries_of s (are.comes.0 ++ record { site = s; entry = e } ∷ [])) ≡ length (held_before js stops s) + 1 = ap length here ∙ length-append (held_before js stops s) (e ∷ []) in
      absurd (omega (arith, most, more))

  front : (xs : List Frame) (k : ℕ) (f : Frame) → slice_get xs k ≡ Some f → IsBeginningOf (f ∷ []) (drop k xs)
  front [] k f h = absurd (cc h)
  front (x ∷ xs) zero f h = let same : x ≡ f = cc h in (xs, ap (λ y. y ∷ xs) (sym same))
  front (x ∷ xs) (suc k) f h = front xs k f h

  got_first : (from : ℕ) (frame : Frame) (xs : ℕ → List Frame) (k : ℕ → ℕ) (a : ℕ) → slice_get (xs from) (k from) ≡ Some frame
      → IsBeginningOf (if from == a then frame ∷ [] else []) (drop (k a) (xs a))
  got_first from frame xs k a h = elim (cases_eq from a) [
    | inl same ↦
        subst (λ b. IsBeginningOf (if b then frame ∷ [] else []) (drop (k a) (xs a))) (sym (eq-eqb from a same))
        (subst (λ y. IsBeginningOf (frame ∷ []) (drop (k y) (xs y))) same (front (xs from) (k from) frame h))
    | inr apart ↦
        subst (λ b. IsBeginningOf (if b then frame ∷ [] else []) (drop (k a) (xs a))) (sym (ne_eqb from a apart)) (beginning_nil (drop (k a) (xs a)))
  ]

  -- the frame that it got is not the next of its link
  pub not_next : (from : ℕ) (frame : Frame) → e.event ≡ Got from frame → next_of (held_before js stops) from s ≢ Some frame
  not_next from frame got next =
      not_taken (λ a. subst (λ (event : Event). IsBeginningOf (frame_from a event) (drop (length (receipts_of a (held_before js stops s))) (sendings_of s (held_before js stops a)))) (sym got)
      (got_first from frame (λ y. sendings_of s (held_before js stops y)) (λ y. length (receipts_of y (held_before js stops s))) a next))

  -- and it got one
  pub got_some : ((a : ℕ) → frame_from a e.event ≡ []) → ⊥
  got_some none =
      not_taken (λ a. subst (λ fs. IsBeginningOf fs (drop (length (receipts_of a (held_before js stops s))) (sendings_of s (held_before js stops a)))) (sym (none a))
      (beginning_nil (drop (length (receipts_of a (held_before js stops s))) (sendings_of s (held_before js stops a)))))

-- ---- a stop is within its journal

pub stop_within : (t : Topology) (js : List Journal) (stops : List (ℕ × ℕ)) (s n : ℕ) → AreStops t js stops → Contains stops (s, n)
    → (1 ≤ n) × (n ≤ length (journal_of js s))
stop_within t js stops s n are one =
    subst (λ (stop : ℕ × ℕ). (1 ≤ stop.1) × (stop.1 ≤ length (journal_of js stop.0))) one.2 (are.unfinished one.0 (s, n) one.1)

pub stop_listed : (stops : List (ℕ × ℕ)) (i : ℕ) (stop : ℕ × ℕ) → i < length stops → stop ≡ get_or stops i stop → Contains stops (stop.0, stop.1)
stop_listed stops i stop within is = (i, within, sym is)

-- the entry that is read there
pub record Read (js : List Journal) (s n : ℕ) (e : Entry) : Type 0 where
  pub within : n - 1 < length (journal_of js s)
  pub is : e ≡ get_or (journal_of js s) (n - 1) e
  pub stands : slice_get (journal_of js s) (n - 1) ≡ Some e

pub entry_read : (t : Topology) (js : List Journal) (stops : List (ℕ × ℕ)) (s n : ℕ) (es : List Entry) (e : Entry) → AreStops t js stops
    → Contains stops (s, n) → es ≡ journal_of js s → e ≡ get_or es (n - 1) e → Read js s n e
entry_read t js stops s n es e are one same read =
    let fits = stop_within t js stops s n are one in
    let low = fits.0 in
    let high = fits.1 in
    let within : n - 1 < length (journal_of js s) = omega (arith, low, high) in
    let is : e ≡ get_or (journal_of js s) (n - 1) e = subst (λ (l : List Entry). e ≡ get_or l (n - 1) e) same read in
    record { within = within; is = is; stands = slice_get_read (journal_of js s) (length (journal_of js s)) (n - 1) e refl within is }

-- ---- the reason

pub own_reason : (t : Topology) (held : ℕ → List Entry) (s : ℕ) (e : Entry) (reason : Reason)
    → IsOwnFault t s (value t s (held s)) e reason → IsReason t held s e reason
own_reason t held s e (Refused refusal) fault = fault
own_reason t held s e (Sent number due) fault = fault
own_reason t held s e (Declared due) fault = fault
own_reason t held s e (NotNext from next) fault = absurd fault
own_reason t held s e (NothingUnderWay from) fault = absurd fault

pub waits_reason : (t : Topology) (held : ℕ → List Entry) (s : ℕ) (e : Entry) (from : ℕ) (frame : Frame) (next : Option Frame)
    → Makes t s (value t s (held s)) e.event e.sent e.declared → e.event ≡ Got from frame
    → next_of held from s ≡ next → next ≢ Some frame → IsReason t held s e (awaits from next)
waits_reason t held s e from frame None makes got is other =
    (frame, makes, got, is, other)
waits_reason t held s e from frame (Some next) makes got is other =
    (frame, makes, got, is, other)

pub no_frame : (event : Event) → ((from : ℕ) (frame : Frame) → event ≡ Got from frame → ⊥) → (a : ℕ) → frame_from a event ≡ []
no_frame (Ask asker targets) not a = refl
no_frame (Reply holder asker) not a = refl
no_frame (Start i) not a = refl
no_frame (Got from frame) not a = absurd (not from frame refl)

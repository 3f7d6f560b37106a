-- Stop n is a consistent stop.
use Rattle.std.proofs.Common.{◌≡◌, ℕ, ◌≤◌, ◌<◌, max, Bool, true, false, ◌&&◌, ◌||◌, List, [], ◌∷◌, ◌++◌, ◌==◌, if◌then◌else◌, refl, sym, ap, ◌∙◌, subst, inl, inr, arith, append_assoc, append-nil}
use Rattle.std.specs.List.{AllByRecursion}
use Rattle.std.proofs.lemmas.Bool.{cases_Bool, cases_lt, ltb-true, lt-ltb, or_cases, true≢false}
use Rattle.cmh_model3.specs.declared.frame.Message.{Message}
use Rattle.cmh_model3.specs.declared.event.Event.{Event}
use Rattle.cmh_model3.specs.declared.event.Event.TheVariants.{Ask, Reply, Withdraw, Got, Turn}
use Rattle.cmh_model3.specs.Entries.{Entry}
use Rattle.cmh_model3.specs.State.{State, empty_state}
use Rattle.cmh_model3.specs.Rules.{clock_after, after}
use Rattle.cmh_model3.specs.Journals.{LawfulFrom, frames_to, message_from, sendings_of, receipts_of}
use Rattle.cmh_model3.specs.Runs.{entries_of, IsBeginningOf}
use Rattle.cmh_model3.specs.Waits.{is_ask}
use Rattle.cmh_model3.specs.Stops.{is_within, entries_within, stopped}
use Rattle.cmh_model3.specs.Laws.{StopIsConsistent}
use Rattle.std.specs.Prelude.{ltb}
use Rattle.cmh_model3.proofs.Clocks.{clock_grows, sent_carries, messages_carry}

abbrev pub AllFrom : ℕ → List Message → Type 0
AllFrom n ms = AllByRecursion (λ (m : Message). n ≤ m.clock) ms

abbrev pub AllBelow : ℕ → List Message → Type 0
AllBelow n ms = AllByRecursion (λ (m : Message). m.clock < n) ms

from_append : (n : ℕ) (xs ys : List Message) → AllFrom n xs → AllFrom n ys → AllFrom n (xs ++ ys)
from_append n [] ys h g = g
from_append n (x ∷ xs) ys h g = (h.0, from_append n xs ys h.1 g)

below_append : (n : ℕ) (xs ys : List Message) → AllBelow n xs → AllBelow n ys → AllBelow n (xs ++ ys)
below_append n [] ys h g = g
below_append n (x ∷ xs) ys h g = (h.0, below_append n xs ys h.1 g)

from_carry : (n c : ℕ) (ms : List Message) → n ≤ c → AllByRecursion (λ (m : Message). m.clock ≡ c) ms → AllFrom n ms
from_carry n c [] l h = tt
from_carry n c (m ∷ ms) l h = let e = h.0 in (omega (arith, e, l), from_carry n c ms l h.1)

-- of a site whose clock is at n all that is sent is late
late : (home : ℕ → ℕ) (n s b : ℕ) (v : State) (es : List Entry) → LawfulFrom home s v es → n ≤ v.clock → AllFrom n (sendings_of b es)
late home n s b v [] h l = tt
late home n s b v (e ∷ es) h l =
    let up = clock_grows v.clock e.event in
    let now : n ≤ clock_after v.clock e.event = omega (arith, up, l) in
    from_append n (frames_to b e.sent) (sendings_of b es)
    (from_carry n (clock_after v.clock e.event) (frames_to b e.sent) now (messages_carry (clock_after v.clock e.event) b e.sent (sent_carries home s v e.event e.sent e.declared h.1)))
    (late home n s b (after home s v e.event e.declared) es h.2 now)

-- and so from an entry past the stop on
sent_late : (home : ℕ → ℕ) (n s b : ℕ) (v : State) (e : Entry) (es : List Entry) → LawfulFrom home s v (e ∷ es) → n ≤ clock_after v.clock e.event → AllFrom n (sendings_of b (e ∷ es))
sent_late home n s b v e es h l =
    from_append n (frames_to b e.sent) (sendings_of b es)
    (from_carry n (clock_after v.clock e.event) (frames_to b e.sent) l (messages_carry (clock_after v.clock e.event) b e.sent (sent_carries home s v e.event e.sent e.declared h.1)))
    (late home n s b (after home s v e.event e.declared) es h.2 l)

pub not_within : (n c : ℕ) (ev : Event) → is_within n c ev ≡ false → n ≤ c
not_within n c ev h = elim (cases_lt c n) [
  | inl l ↦ absurd (true≢false (sym (ap (λ z. z || (is_ask ev && (c == n))) (lt-ltb c n l)) ∙ h))
  | inr g ↦ g
]

-- what a site sends is what it sends within the stop, and then what is late
sendings_split : (home : ℕ → ℕ) (n s b : ℕ) (v : State) (es : List Entry) → LawfulFrom home s v es
    → (rest : List Message) × (sendings_of b (entries_within n v.clock es) ++ rest ≡ sendings_of b es) × AllFrom n rest
sendings_split home n s b v [] h = ([], refl, tt)
sendings_split home n s b v (e ∷ es) h = elim (cases_Bool (is_within n (clock_after v.clock e.event) e.event)) [
  | inl y ↦
      let r = sendings_split home n s b (after home s v e.event e.declared) es h.2 in (
        r.0,
        ap (λ z. sendings_of b (if z then e ∷ entries_within n (clock_after v.clock e.event) es else []) ++ r.0) y
            ∙ append_assoc (frames_to b e.sent) (sendings_of b (entries_within n (clock_after v.clock e.event) es)) r.0
            ∙ ap (λ l. frames_to b e.sent ++ l) r.1,
        r.2,
      )
  | inr y ↦ (
    sendings_of b (e ∷ es),
    ap (λ z. sendings_of b (if z then e ∷ entries_within n (clock_after v.clock e.event) es else []) ++ sendings_of b (e ∷ es)) y,
    sent_late home n s b v e es h (not_within n (clock_after v.clock e.event) e.event y),
  )
]

-- what came within the stop is early
got_early_one : (n a c : ℕ) (ev : Event) → is_within n (clock_after c ev) ev ≡ true → AllBelow n (message_from a ev)
got_early_one n a c (Ask j ks) h = tt
got_early_one n a c (Reply k j) h = tt
got_early_one n a c (Withdraw j ks) h = tt
got_early_one n a c (Turn d) h = tt
got_early_one n a c (Got from d f) h = elim (or_cases (ltb (max c d) n) false h) [
  | inl l ↦ let lt = ltb-true (max c d) n l in below (from == a) (omega (arith, lt))
  | inr x ↦ absurd (true≢false (sym x))
]
  where
    below : (z : Bool) → d < n → AllBelow n (if z then record { clock = d; frame = f } ∷ [] else [])
    below true l = (l, tt)
    below false l = tt

got_early : (n a c : ℕ) (es : List Entry) → AllBelow n (receipts_of a (entries_within n c es))
got_early n a c [] = tt
got_early n a c (e ∷ es) = elim (cases_Bool (is_within n (clock_after c e.event) e.event)) [
  | inl y ↦ subst (λ z. AllBelow n (receipts_of a (if z then e ∷ entries_within n (clock_after c e.event) es else []))) (sym y)
      (below_append n (message_from a e.event) (receipts_of a (entries_within n (clock_after c e.event) es)) (got_early_one n a c e.event y) (got_early n a (clock_after c e.event) es))
  | inr y ↦ subst (λ z. AllBelow n (receipts_of a (if z then e ∷ entries_within n (clock_after c e.event) es else []))) (sym y) tt
]

-- and begins what came
receipts_split : (n a c : ℕ) (es : List Entry) → IsBeginningOf (receipts_of a (entries_within n c es)) (receipts_of a es)
receipts_split n a c [] = ([], refl)
receipts_split n a c (e ∷ es) = elim (cases_Bool (is_within n (clock_after c e.event) e.event)) [
  | inl y ↦
      let r = receipts_split n a (clock_after c e.event) es in (
        r.0,
        ap (λ z. receipts_of a (if z then e ∷ entries_within n (clock_after c e.event) es else []) ++ r.0) y
            ∙ append_assoc (message_from a e.event) (receipts_of a (entries_within n (clock_after c e.event) es)) r.0
            ∙ ap (λ l. message_from a e.event ++ l) r.1,
      )
  | inr y ↦ (receipts_of a (e ∷ es), ap (λ z. receipts_of a (if z then e ∷ entries_within n (clock_after c e.event) es else []) ++ receipts_of a (e ∷ es)) y)
]

-- of two beginnings of a list: the early ones stand within what is not late
early_begins : (n : ℕ) (early more before late : List Message) → early ++ more ≡ before ++ late → AllBelow n early → AllFrom n late → IsBeginningOf early before
early_begins n [] more before late h e l = (before, refl)
early_begins n (x ∷ early) more [] late h e l =
    let first : AllFrom n (x ∷ (early ++ more)) = subst (AllFrom n) (sym h) l in
    let low = e.0 in let high = first.0 in absurd (omega (arith, low, high))
early_begins n (x ∷ early) more (y ∷ before) late h e l =
    let same : x ≡ y = cc h in
    let tail : early ++ more ≡ before ++ late = cc h in
    let r = early_begins n early more before late tail e.1 l in
    (r.0, λ i. same i ∷ r.1 i)

pub cuts_at_stamps : StopIsConsistent
cuts_at_stamps home events run n a b =
    let all = run.in_order events ([], append-nil events) a b in
    let got = receipts_split n a 0 (entries_of b events) in
    let sent = sendings_split home n a b empty_state (entries_of a events) (run.lawful a) in
    early_begins n (receipts_of a (stopped n events b)) (got.0 ++ all.0) (sendings_of b (stopped n events a)) sent.0
    (sym (append_assoc (receipts_of a (stopped n events b)) got.0 all.0) ∙ ap (λ l. l ++ all.0) got.1 ∙ all.1 ∙ sym sent.1)
    (got_early n a 0 (entries_of b events))
    sent.2

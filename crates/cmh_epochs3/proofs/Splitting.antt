-- A run is split at a consistent stop.
use Rattle.std.proofs.Common.{◌≡◌, ◌≢◌, Bool, true, false, ℕ, zero, suc, ◌-◌, ◌≤◌, List, [], ◌∷◌, ◌++◌, ◌==◌, if◌then◌else◌, refl, sym, ap, ◌∙◌, subst, inl, inr, length, take, drop, arith, take-append-drop, append_assoc, append-nil}
use Rattle.std.proofs.lemmas.List.{append_cancel_left, take-append-le}
use Rattle.std.proofs.lemmas.Bool.{eq-eqb, ne_eqb, cases_eq, cases_lt}
use Rattle.cmh_runs.specs.declared.entry.Entry.{Entry}
use Rattle.cmh_runs.specs.declared.entry.WorldEvent.{WorldEvent}
use Rattle.cmh_runs.specs.Rules.{Rules}
use Rattle.cmh_runs.specs.Runs.{IsBeginningOf, IsRun, entries_of, sendings}
use Rattle.cmh_runs.specs.Journals.{LawfulFrom, receipts_of, sendings_of, state_after}
use Rattle.cmh_runs.proofs.Beginnings.{beginning_nil, beginning_take, length-beginning, shorter_begins}
use Rattle.cmh_runs.proofs.Journals.{entries_here, entries_elsewhere, entries_of-append, lawful_rest, receipts_of-append, receipts_of-beginning, sendings_of-append, sendings_of-beginning}
use Rattle.cmh_runs.proofs.Stops.{stops_anywhere}
use Rattle.cmh_model3.specs.Entries.{Entry as Step}
use Rattle.cmh_model3.specs.Journals.{message_from, rules_of}
use Rattle.cmh_model3.specs.Laws.{StopIsConsistent}
use Rattle.cmh_model3.specs.Rules.{clock_after}
use Rattle.cmh_model3.specs.Stops.{entries_within, is_within, stopped}
use Rattle.cmh_epochs3.specs.Worlds.{IsRunFrom, World}
use Rattle.cmh_epochs3.specs.Laws.{first_world}
use Rattle.cmh_epochs3.specs.Splits.{ComeFromRun, ComeInParts, ExactlyTheWhole, StopsByStampSplit}
use Rattle.cmh_epochs3.proofs.Chaining.{first_proof, join_two}

-- ---- the events past the stop

-- the stop with one entry less of this site
lower : (ℕ → ℕ) → ℕ → ℕ → ℕ
lower stop site s = if site == s then stop s - 1 else stop s

past : {Event Frame : Type 0} → (ℕ → ℕ) → List (WorldEvent Event Frame) → List (WorldEvent Event Frame)
past stop [] = []
past stop (e ∷ es) = if stop e.site == 0 then e ∷ past stop es else past (lower stop e.site) es

past_takes : {Event Frame : Type 0} (stop : ℕ → ℕ) (e : WorldEvent Event Frame) (es : List (WorldEvent Event Frame)) → stop e.site ≡ 0 → past stop (e ∷ es) ≡ e ∷ past stop es
unfolding past
past_takes stop e es h = ap (λ z. if z then e ∷ past stop es else past (lower stop e.site) es) (eq-eqb (stop e.site) 0 h)

past_skips : {Event Frame : Type 0} (stop : ℕ → ℕ) (e : WorldEvent Event Frame) (es : List (WorldEvent Event Frame)) → stop e.site ≢ 0 → past stop (e ∷ es) ≡ past (lower stop e.site) es
unfolding past
past_skips stop e es h = ap (λ z. if z then e ∷ past stop es else past (lower stop e.site) es) (ne_eqb (stop e.site) 0 h)

-- of each site the first entries are gone, as many as its stop says
entries_past : {Event Frame : Type 0} (stop : ℕ → ℕ) (es : List (WorldEvent Event Frame)) (s : ℕ) → entries_of s (past stop es) ≡ drop (stop s) (entries_of s es)
unfolding past lower
entries_past {Event} {Frame} stop [] s = none (stop s)
  where
    none : (n : ℕ) → ◌≡◌ {A = List (Entry Event Frame)} [] (drop n [])
    none zero = refl
    none (suc n) = refl
entries_past {Event} {Frame} stop (e ∷ es) s = elim (cases_eq (stop e.site) 0) [
  | inl h ↦ ap (entries_of s) (past_takes stop e es h) ∙ elim (cases_eq e.site s) [
    | inl at ↦
        let zero_here : stop s ≡ 0 = ap stop (sym at) ∙ h in
        entries_here s e (past stop es) at ∙ ap (λ z. e.entry ∷ z) (entries_past stop es s ∙ ap (λ n. drop n (entries_of s es)) zero_here)
        ∙ sym (ap (λ n. drop n (entries_of s (e ∷ es))) zero_here ∙ entries_here s e es at)
    | inr far ↦ entries_elsewhere s e (past stop es) far ∙ entries_past stop es s ∙ ap (drop (stop s)) (sym (entries_elsewhere s e es far))
  ]
  | inr h ↦ ap (entries_of s) (past_skips stop e es h) ∙ entries_past (lower stop e.site) es s ∙ elim (cases_eq e.site s) [
    | inl at ↦
        ap (λ z. drop (if z then stop s - 1 else stop s) (entries_of s es)) (eq-eqb e.site s at)
        ∙ one_more (stop s) (λ z. h (ap stop at ∙ z)) e.entry (entries_of s es)
        ∙ ap (drop (stop s)) (sym (entries_here s e es at))
    | inr far ↦
        ap (λ z. drop (if z then stop s - 1 else stop s) (entries_of s es)) (ne_eqb e.site s far)
        ∙ ap (drop (stop s)) (sym (entries_elsewhere s e es far))
  ]
]
  where
    one_more : (n : ℕ) → n ≢ 0 → (x : Entry Event Frame) (xs : List (Entry Event Frame)) → drop (n - 1) xs ≡ drop n (x ∷ xs)
    one_more zero h x xs = absurd (h refl)
    one_more (suc n) h x xs = let same : suc n - 1 ≡ n = omega arith in ap (λ m. drop m xs) same

-- a beginning of the events past the stop is what a beginning has past it
past_beginning : {Event Frame : Type 0} (stop : ℕ → ℕ) (es so_far rest : List (WorldEvent Event Frame)) → so_far ++ rest ≡ past stop es → (front : List (WorldEvent Event Frame)) × IsBeginningOf front es × (past stop front ≡ so_far)
unfolding past
past_beginning stop es [] rest h = ([], (es, refl), refl)
past_beginning stop [] (x ∷ so_far) rest h = absurd (cc h)
past_beginning stop (e ∷ es) (x ∷ so_far) rest h = elim (cases_eq (stop e.site) 0) [
  | inl z ↦
      let list : x ∷ (so_far ++ rest) ≡ e ∷ past stop es = h ∙ past_takes stop e es z in
      let first : x ≡ e = cc list in
      let others : so_far ++ rest ≡ past stop es = cc list in
      let r = past_beginning stop es so_far rest others in
      (e ∷ r.0, (r.1.0, ap (λ y. e ∷ y) r.1.1), past_takes stop e r.0 z ∙ (λ i. sym first i ∷ r.2 i))
  | inr z ↦
      let r = past_beginning (lower stop e.site) es (x ∷ so_far) rest (h ∙ past_skips stop e es z) in
      (e ∷ r.0, (r.1.0, ap (λ y. e ∷ y) r.1.1), past_skips stop e r.0 z ∙ r.2)
]

-- ---- what comes past it

module _ {Event Frame : Type 0} (got : ℕ → Event → List Frame) where
  receipts_parts : (a n : ℕ) (es : List (Entry Event Frame)) → receipts_of got a (take n es) ++ receipts_of got a (drop n es) ≡ receipts_of got a es
  receipts_parts a n es = sym (receipts_of-append got a (take n es) (drop n es)) ∙ ap (receipts_of got a) (take-append-drop n es)

  sendings_parts : (b n : ℕ) (es : List (Entry Event Frame)) → sendings_of b (take n es) ++ sendings_of b (drop n es) ≡ sendings_of b es
  sendings_parts b n es = sym (sendings_of-append b (take n es) (drop n es)) ∙ ap (sendings_of b) (take-append-drop n es)

  -- One link: `xa` and `xb` are what its sites have at a moment, `ya` and `yb` what they get later, and `base` is under way at
  -- the stop.
  late_order : (a b m n : ℕ) (xa ya xb yb : List (Entry Event Frame)) (rest base : List Frame)
      → receipts_of got a xb ++ rest ≡ sendings_of b xa
      → receipts_of got a (take n (xb ++ yb)) ++ base ≡ sendings_of b (take m (xa ++ ya))
      → IsBeginningOf (receipts_of got a (drop n xb)) (base ++ sendings_of b (drop m xa))
  late_order a b m n xa ya xb yb rest base so_far under = elim (cases_lt (length xb) n) [
    | inl short ↦ subst (λ l. IsBeginningOf (receipts_of got a l) (base ++ sendings_of b (drop m xa))) (sym (drop_all n xb (omega (arith, short)))) (beginning_nil _)
    | inr long ↦
        let tb : take n (xb ++ yb) ≡ take n xb = take-append-le n xb yb (omega (arith, long)) in
        let got_all : receipts_of got a (take n xb) ++ (receipts_of got a (drop n xb) ++ rest) ≡ sendings_of b xa =
        sym (append_assoc (receipts_of got a (take n xb)) (receipts_of got a (drop n xb)) rest) ∙ ap (λ l. l ++ rest) (receipts_parts a n xb) ∙ so_far in
        let early : receipts_of got a (take n xb) ++ base ≡ sendings_of b (take m (xa ++ ya)) = ap (λ l. receipts_of got a l ++ base) (sym tb) ∙ under in
        elim (cases_lt (length xa) m) [
          | inr far ↦
              let ta : take m (xa ++ ya) ≡ take m xa = take-append-le m xa ya (omega (arith, far)) in
              let e : receipts_of got a (take n xb) ++ (receipts_of got a (drop n xb) ++ rest) ≡ receipts_of got a (take n xb) ++ (base ++ sendings_of b (drop m xa)) =
              got_all ∙ sym (sendings_parts b m xa) ∙ ap (λ l. sendings_of b l ++ sendings_of b (drop m xa)) (sym ta)
              ∙ ap (λ l. l ++ sendings_of b (drop m xa)) (sym early) ∙ append_assoc (receipts_of got a (take n xb)) base (sendings_of b (drop m xa)) in
              (rest, append_cancel_left (receipts_of got a (take n xb)) (receipts_of got a (drop n xb) ++ rest) (base ++ sendings_of b (drop m xa)) e)
          | inl near ↦
              let begun = sendings_of-beginning b xa (take m (xa ++ ya)) (front_taken m xa ya (omega (arith, near))) in
              let e : receipts_of got a (take n xb) ++ ((receipts_of got a (drop n xb) ++ rest) ++ begun.0) ≡ receipts_of got a (take n xb) ++ base =
              sym (append_assoc (receipts_of got a (take n xb)) (receipts_of got a (drop n xb) ++ rest) begun.0) ∙ ap (λ l. l ++ begun.0) got_all ∙ begun.1 ∙ sym early in
              let f : (receipts_of got a (drop n xb) ++ rest) ++ begun.0 ≡ base =
              append_cancel_left (receipts_of got a (take n xb)) ((receipts_of got a (drop n xb) ++ rest) ++ begun.0) base e in (
                (rest ++ begun.0) ++ sendings_of b (drop m xa),
                sym (append_assoc (receipts_of got a (drop n xb)) (rest ++ begun.0) (sendings_of b (drop m xa)))
                    ∙ ap (λ l. l ++ sendings_of b (drop m xa)) (sym (append_assoc (receipts_of got a (drop n xb)) rest begun.0) ∙ f),
              )
        ]
  ]
    where
      drop_all : (k : ℕ) (l : List (Entry Event Frame)) → length l ≤ k → drop k l ≡ []
      drop_all zero [] h = refl
      drop_all (suc k) [] h = refl
      drop_all zero (x ∷ xs) h = absurd (omega (arith, h))
      drop_all (suc k) (x ∷ xs) h = drop_all k xs (omega (arith, h))

      front_taken : (k : ℕ) (l more : List (Entry Event Frame)) → length l ≤ k → IsBeginningOf l (take k (l ++ more))
      front_taken k [] more h = beginning_nil _
      front_taken zero (x ∷ l) more h = absurd (omega (arith, h))
      front_taken (suc k) (x ∷ l) more h = let r = front_taken k l more (omega (arith, h)) in (r.0, ap (λ z. x ∷ z) r.1)

-- ---- the two parts

-- the rest of a run past a consistent stop is a run from the world to which what is before it leads
module _ {State Event Frame : Type 0} (got : ℕ → Event → List Frame) (rules : ℕ → Rules State Event Frame)
    (events : List (WorldEvent Event Frame)) (run : IsRun got rules events) (stop : ℕ → ℕ)
    (consistent : (a b : ℕ) → length (receipts_of got a (take (stop b) (entries_of b events)))
    ≤ length (sendings_of b (take (stop a) (entries_of a events)))) where
  in_order_before : (a b : ℕ) → IsBeginningOf (receipts_of got a (take (stop b) (entries_of b events))) (sendings_of b (take (stop a) (entries_of a events)))
  in_order_before a b =
      let came = run.in_order events ([], append-nil events) a b in
      let got_part = receipts_of-beginning got a (take (stop b) (entries_of b events)) (entries_of b events) (beginning_take (stop b) (entries_of b events)) in
      let sent_part = sendings_of-beginning b (take (stop a) (entries_of a events)) (entries_of a events) (beginning_take (stop a) (entries_of a events)) in
      shorter_begins _ _ (sendings a b events)
      (got_part.0 ++ came.0, sym (append_assoc _ got_part.0 came.0) ∙ ap (λ l. l ++ came.0) got_part.1 ∙ came.1)
      sent_part (consistent a b)

  abbrev base_of : World State Frame
  base_of = record {
    state = λ s. state_after (rules s) (rules s).first (take (stop s) (entries_of s events));
    under_way = λ a b. (in_order_before a b).0;
  }

  goes_on : IsRunFrom got rules base_of (past stop events)
  goes_on = record {
    lawful = λ s. subst (LawfulFrom (rules s) (state_after (rules s) (rules s).first (take (stop s) (entries_of s events)))) (sym (entries_past stop events s))
        (lawful_rest (rules s) (rules s).first (take (stop s) (entries_of s events)) (drop (stop s) (entries_of s events))
        (subst (LawfulFrom (rules s) (rules s).first) (sym (take-append-drop (stop s) (entries_of s events))) (run.lawful s)));
    in_order = λ so_far begins a b.
        let front = past_beginning stop events so_far begins.0 begins.1 in
        let all : (s : ℕ) → entries_of s front.0 ++ entries_of s front.1.0 ≡ entries_of s events =
        λ s. sym (entries_of-append s front.0 front.1.0) ∙ ap (entries_of s) front.1.1 in
        let t = run.in_order front.0 front.1 a b in
        let o = late_order got a b (stop a) (stop b) (entries_of a front.0) (entries_of a front.1.0) (entries_of b front.0) (entries_of b front.1.0) t.0
        (in_order_before a b).0 t.1
        (ap (λ l. receipts_of got a (take (stop b) l) ++ (in_order_before a b).0) (all b) ∙ (in_order_before a b).1
        ∙ ap (λ l. sendings_of b (take (stop a) l)) (sym (all a))) in (
          o.0,
          ap (λ l. receipts_of got a l ++ o.0) (ap (entries_of b) (sym front.2) ∙ entries_past stop front.0 b) ∙ o.1
              ∙ ap (λ l. (in_order_before a b).0 ++ sendings_of b l) (sym (ap (entries_of a) (sym front.2) ∙ entries_past stop front.0 a)),
        );
  }

-- ---- journals

pub exactly_proof : ExactlyTheWhole
exactly_proof home stop journals consistent = record { splits = split; joins = join }
  where
    split : ComeFromRun home journals → ComeInParts home stop journals
    split all =
        let rules = rules_of home in
        let fits : (a b : ℕ) → length (receipts_of message_from a (take (stop b) (entries_of b all.events))) ≤ length (sendings_of b (take (stop a) (entries_of a all.events))) =
        λ a b. subst (λ l. length (receipts_of message_from a (take (stop b) l)) ≤ length (sendings_of b (take (stop a) (entries_of a all.events)))) (sym (all.comes b))
        (subst (λ l. length (receipts_of message_from a (take (stop b) (journals b))) ≤ length (sendings_of b (take (stop a) l))) (sym (all.comes a)) (consistent a b)) in
        let early = stops_anywhere message_from rules all.events all.run stop fits in
        record {
          before = record { events = early.0; run = early.1; comes = λ s. early.2 s ∙ ap (take (stop s)) (all.comes s) };
          base = base_of message_from rules all.events all.run stop fits;
          leads = record {
            states = λ s. ap (state_after (rules s) (rules s).first) (sym (early.2 s));
            under_way = λ a b. ap (λ l. receipts_of message_from a l ++ (in_order_before message_from rules all.events all.run stop fits a b).0) (early.2 b)
                ∙ (in_order_before message_from rules all.events all.run stop fits a b).1 ∙ ap (sendings_of b) (sym (early.2 a));
          };
          past = past stop all.events;
          goes_on = goes_on message_from rules all.events all.run stop fits;
          comes = λ s. entries_past stop all.events s ∙ ap (drop (stop s)) (all.comes s);
        }

    join : ComeInParts home stop journals → ComeFromRun home journals
    join parts =
        let first = (first_proof home parts.before.events).from_first parts.before.run in record {
          events = parts.before.events ++ parts.past;
          run = (first_proof home (parts.before.events ++ parts.past)).is_run
              (join_two message_from (rules_of home) (first_world home) parts.base parts.before.events parts.past
              (record { run = first; leads = parts.leads }) parts.goes_on);
          comes = λ s. entries_of-append s parts.before.events parts.past ∙ ap (λ l. l ++ entries_of s parts.past) (parts.before.comes s)
              ∙ ap (λ l. take (stop s) (journals s) ++ l) (parts.comes s) ∙ take-append-drop (stop s) (journals s);
        }

-- ---- stops by stamp

-- the entries of a site within a stop are its first ones
within_first : (n c : ℕ) (es : List Step) → take (length (entries_within n c es)) es ≡ entries_within n c es
within_first n c [] = refl
within_first n c (e ∷ es) = go (is_within n (clock_after c e.event) e.event) (within_first n (clock_after c e.event) es)
  where
    go : (z : Bool) → take (length (entries_within n (clock_after c e.event) es)) es ≡ entries_within n (clock_after c e.event) es
        → take (length (if z then e ∷ entries_within n (clock_after c e.event) es else [])) (e ∷ es)
        ≡ (if z then e ∷ entries_within n (clock_after c e.event) es else [])
    go true h = ap (λ l. e ∷ l) h
    go false h = refl

pub stamps_proof : StopIsConsistent → StopsByStampSplit
stamps_proof law home events run n a b =
    let part : (s : ℕ) → take (length (stopped n events s)) (entries_of s events) ≡ stopped n events s = λ s. within_first n 0 (entries_of s events) in
    let begun = length-beginning _ _ (law home events run n a b) in
    subst (λ l. length (receipts_of message_from a l) ≤ length (sendings_of b (take (length (stopped n events a)) (entries_of a events)))) (sym (part b))
    (subst (λ l. length (receipts_of message_from a (stopped n events b)) ≤ length (sendings_of b l)) (sym (part a)) begun)

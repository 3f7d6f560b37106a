-- From a merge of the lawful entries to what they come to.
use Rattle.std.proofs.Common.{◌≡◌, ◌≢◌, ℕ, ◌+◌, ◌-◌, ◌<◌, ◌≤◌, ◌==◌, ◌⊎◌, Bool, true, false, List, [], ◌∷◌, ◌++◌, length, take, drop, map, if◌then◌else◌, cond, Option, None, Some, inl, inr, refl, sym, ap, ◌∙◌, subst, arith, append_assoc, append-nil, length-append, length-take-le, take_all}
use Rattle.std.specs.Prelude.{nat_lt}
use Rattle.std.specs.List.{AllByRecursion, filter}
use Rattle.std.specs.List.Sorted.{IsStrictlyIncreasing}
use Rattle.std.specs.Option.{option_to_list}
use Rattle.std.proofs.lemmas.Bool.{cases_Bool, cases_eq, cases_lt, eq-eqb, ne_eqb, lt-ltb, ltb-true, or_cases, true≢false}
use Rattle.std.proofs.lemmas.List.{length-map, map-append, take-append-drop}
use Rattle.std.proofs.lemmas.List.Kept.{IsStrictlyIncreasing-filter}
use Rattle.cmh_frames.specs.Rows.{repeats}
use Rattle.cmh_merge.specs.Merges as merge
use Rattle.cmh_merge.specs.Merges.{IsMergeFrom, LeavesUnderWay}
use Rattle.cmh_merge.specs.Queues.{waiting}
use Rattle.cmh_runs.proofs.Beginnings.{beginning_take, length-beginning, shorter_begins}
use Rattle.cmh_runs.proofs.Journals.{lawful_front}
use Rattle.cmh_model3.specs.declared.frame.Frame.TheVariants.{Request, Reply as Reply_frame, Withdraw as Withdraw_frame, Probe}
use Rattle.cmh_model3.specs.declared.frame.Message.{Message}
use Rattle.cmh_model3.specs.declared.event.Event.{Event}
use Rattle.cmh_model3.specs.declared.event.Event.TheVariants.{Ask, Reply, Withdraw, Got, Turn}
use Rattle.cmh_model3.specs.Entries as model
use Rattle.cmh_model3.specs.Entries.{WorldEvent}
use Rattle.cmh_model3.specs.Journals.{LawfulFrom, message_from, receipts_of, rules_of, state_after}
use Rattle.cmh_model3.specs.Rules.{Accepts, after}
use Rattle.cmh_model3.specs.Runs.{IsBeginningOf, entries_of}
use Rattle.cmh_model3.specs.State.{State}
use Rattle.cmh_topology3.specs.Topology.{Topology, is_site, site_of, sites_of}
use Rattle.cmh_segment3.specs.declared.entry.Entry.{Entry}
use Rattle.cmh_segment3.specs.declared.segment.Segment.{Segment}
use Rattle.cmh_segment3.specs.Entries.{step_of}
use Rattle.cmh_segment3.specs.Steps.{entries_from}
use Rattle.cmh_segment3.proofs.WholeEntries.{steps_come_back}
use Rattle.cmh_audit3.specs.declared.judgement.Judged.{Judged}
use Rattle.cmh_audit3.specs.declared.stops.Reason.TheVariants.{Unlawful, NotSent}
use Rattle.cmh_audit3.specs.declared.stops.Stop.{Stop}
use Rattle.cmh_audit3.specs.Journals.{AreLawfulFrom, journal_of}
use Rattle.cmh_audit3.specs.Judged.{AreInOrder, IsJudgement}
use Rattle.cmh_audit3.specs.Set.{has_site, sites_in}
use Rattle.cmh_audit3.specs.Stops.{IsReasonFrom, IsStopFrom, before_stop}
use Rattle.cmh_audit3.specs.Inner.Lawful.{AreLawfulLengths, IsLawfulLength, StandIfLawful}
use Rattle.cmh_audit3.specs.Inner.Survey.{left_at, limit_at, reason_of, steps_within, stop_at, stops_at}
use Rattle.cmh_audit3.proofs.Ends.{stand_behind}
use Rattle.cmh_audit3.proofs.Lengths.{entries-append, front_same, lawful_beginning, length-entries}
use Rattle.cmh_audit3.proofs.Surveys.{as_many, journal_at, limits_at, none_there}

-- no site got a message of its own
none_got : (t : Topology) (s : ℕ) (v : State) (es : List model.Entry) → LawfulFrom (site_of t) s v es → receipts_of s es ≡ []
none_got t s v [] lawful = refl
none_got t s v (e ∷ es) lawful = ap (λ l. l ++ receipts_of s es) (none (e.event) lawful.0) ∙ none_got t s (after (site_of t) s v e.event e.declared) es lawful.2
  where
    other : (a c : ℕ) (m : List Message) → a ≢ s → (if a == s then m else []) ≡ []
    other a c m apart = ap (λ z. if z then m else []) (ne_eqb a s apart)

    none : (ev : Event) → Accepts (site_of t) s v ev → message_from s ev ≡ []
    none (Ask j ks) acc = refl
    none (Reply k j) acc = refl
    none (Withdraw j ks) acc = refl
    none (Turn c) acc = refl
    none (Got a c (Request j k)) acc = other a c _ acc.0
    none (Got a c (Reply_frame k j)) acc = other a c _ acc.0
    none (Got a c (Withdraw_frame j k)) acc = other a c _ acc.0
    none (Got a c (Probe i n j k)) acc = other a c _ acc.0

module _ (t : Topology) (states : ℕ → State) (first : ℕ → ℕ → List Message) (gs : List Segment) (ns : List ℕ) (lengths : AreLawfulLengths t states gs ns) (lefts : List (List model.Entry)) (order : List ℕ)
    (m : IsMergeFrom message_from first (sites_in gs) (steps_within gs ns) lefts order) where
  abbrev whole : ℕ → List Entry
  whole s = journal_of gs s

  abbrev limit : ℕ → ℕ
  limit s = limit_at gs ns s

  abbrev left : ℕ → List model.Entry
  left s = merge.journal_of (sites_in gs) lefts s

  -- how many entries of a site were taken
  abbrev taken : ℕ → ℕ
  taken s = limit s - left_at gs lefts s

  -- the clock of a site at first
  abbrev clock : ℕ → ℕ
  clock s = (states s).clock

  lawful : (s : ℕ) → IsLawfulLength t s (states s) (whole s) (limit s)
  lawful s = limits_at t states gs ns lengths s

  steps_are : (s : ℕ) → entries_of s m.events ++ left s ≡ map step_of (take (limit s) (whole s))
  steps_are s = m.rest s ∙ journal_at gs ns s (as_many t states gs ns lengths)

  taken_is : (s : ℕ) → length (entries_of s m.events) ≡ taken s
  taken_is s =
      let all = ap length (steps_are s) in
      let sum = length-append (entries_of s m.events) (left s) in
      let long = length-map (take (limit s) (whole s)) step_of in
      let front = length-take-le (limit s) (whole s) (lawful s).within in
      omega (arith, all, sum, long, front)

  -- what was taken of a site are its first entries
  pub kept : (s : ℕ) → entries_from (clock s) (entries_of s m.events) ≡ take (taken s) (whole s)
  kept s =
      let xs = entries_of s m.events in
      let v : State = state_after (site_of t) s (states s) xs in
      let begin : entries_from (clock s) xs ++ entries_from v.clock (left s) ≡ take (limit s) (whole s) =
      sym (entries-append (site_of t) s (states s) xs (left s)) ∙ ap (entries_from (clock s)) (steps_are s) ∙ (lawful s).lawful.stamps in
      let all : entries_from (clock s) xs ++ (entries_from v.clock (left s) ++ drop (limit s) (whole s)) ≡ whole s =
      sym (append_assoc (entries_from (clock s) xs) (entries_from v.clock (left s)) (drop (limit s) (whole s))) ∙ ap (λ l. l ++ drop (limit s) (whole s)) begin ∙ take-append-drop (limit s) (whole s) in
      sym (front_same (entries_from (clock s) xs) _ (whole s) all) ∙ ap (λ n. take n (whole s)) (length-entries (clock s) xs ∙ taken_is s)

  pub run : AreInOrder t states first m.events
  run = record {
    lawful = λ s. lawful_front (rules_of (site_of t) s) (states s) (entries_of s m.events) (left s) (subst (λ l. LawfulFrom (site_of t) s (states s) l) (sym (steps_are s)) (lawful s).lawful.steps);
    in_order = m.in_order;
  }

  none_from_itself : merge.NoneFromItself message_from (merge.journal_of (sites_in gs) (steps_within gs ns))
  none_from_itself s = none_got t s (states s) _ (subst (λ l. LawfulFrom (site_of t) s (states s) l) (sym (journal_at gs ns s (as_many t states gs ns lengths))) (lawful s).lawful.steps)

  -- ---- no run has more

  module _ (others : List WorldEvent) (is_run : AreInOrder t states first others) (begin : (s : ℕ) → IsBeginningOf (entries_from (clock s) (entries_of s others)) (whole s)) where
    lawful_others : (s : ℕ) → AreLawfulFrom t s (states s) (entries_from (clock s) (entries_of s others))
    lawful_others s =
        let back = steps_come_back (clock s) (entries_of s others) in
        record { steps = subst (λ l. LawfulFrom (site_of t) s (states s) l) (sym back) (is_run.lawful s); stamps = ap (entries_from (clock s)) back }

    within_limit : (s : ℕ) → length (entries_from (clock s) (entries_of s others)) ≤ limit s
    within_limit s = elim (cases_lt (limit s) (length (entries_from (clock s) (entries_of s others)))) [
      | inr within ↦ within
      | inl more ↦
          let xs = entries_from (clock s) (entries_of s others) in
          let room = length-beginning xs (whole s) (begin s) in
          let long = length-take-le (limit s + 1) (whole s) (omega (arith, more, room)) in
          let front = shorter_begins (take (limit s + 1) (whole s)) xs (whole s) (beginning_take (limit s + 1) (whole s)) (begin s) (omega (arith, long, more)) in
          absurd ((lawful s).stops (omega (arith, more, room)) (lawful_beginning t s (states s) (take (limit s + 1) (whole s)) front.0 (subst (AreLawfulFrom t s (states s)) (sym front.1) (lawful_others s))))
    ]

    begins_lawful : (s : ℕ) → IsBeginningOf (entries_of s others) (merge.journal_of (sites_in gs) (steps_within gs ns) s)
    begins_lawful s =
        let xs = entries_from (clock s) (entries_of s others) in
        let long = length-take-le (limit s) (whole s) (lawful s).within in
        let within = within_limit s in
        let front = shorter_begins xs (take (limit s) (whole s)) (whole s) (begin s) (beginning_take (limit s) (whole s)) (omega (arith, long, within)) in (
          map step_of front.0,
          ap (λ l. l ++ map step_of front.0) (sym (steps_come_back (clock s) (entries_of s others))) ∙ sym (map-append step_of xs front.0) ∙ ap (map step_of) front.1 ∙ sym (journal_at gs ns s (as_many t states gs ns lengths)),
        )

    pub most : (s : ℕ) → length (entries_of s others) ≤ taken s
    most s =
        let shorter = length-beginning (entries_of s others) (entries_of s m.events) (m.most none_from_itself others is_run.in_order begins_lawful s) in
        let same = taken_is s in
        omega (arith, shorter, same)

  -- ---- the stops

  abbrev stop : ℕ → Option Stop
  stop s = stop_at gs ns lefts s

  abbrev stops : List ℕ → List Stop
  stops sites = stops_at stop sites

  -- the stop of a site, where it has one
  abbrev stop_here : ℕ → Stop
  stop_here s = record { site = s; entry = taken s + 1; reason = reason_of (left_at gs lefts s) }

  abbrev is_open : ℕ → Bool
  is_open s = nat_lt (taken s) (length (whole s))

  back : (n : ℕ) → n + 1 - 1 ≡ n
  back n = omega arith

  -- what stands before the stops is what was taken
  before : (sites : List ℕ) (s : ℕ) → (has_site sites s ≡ true) ⊎ (length (whole s) ≤ taken s) → before_stop (stops sites) s (whole s) ≡ take (taken s) (whole s)
  before [] s (inl h) = absurd (true≢false (sym h))
  before [] s (inr past) = sym (take_all (taken s) (whole s) past)
  before (x ∷ sites) s there = elim (cases_Bool (is_open x)) [
    | inl yes' ↦ ap (λ z. before_stop (option_to_list (if z then Some (stop_here x) else None) ++ stops sites) s (whole s)) yes' ∙ elim (cases_eq x s) [
      | inl e ↦ ap (λ z. if z then take (taken x + 1 - 1) (whole s) else before_stop (stops sites) s (whole s)) (eq-eqb x s e) ∙ ap (λ n. take n (whole s)) (back (taken x)) ∙ ap (λ q. take (taken q) (whole s)) e
      | inr n ↦ ap (λ z. if z then take (taken x + 1 - 1) (whole s) else before_stop (stops sites) s (whole s)) (ne_eqb x s n) ∙ before sites s (later n there)
    ]
    | inr no' ↦ ap (λ z. before_stop (option_to_list (if z then Some (stop_here x) else None) ++ stops sites) s (whole s)) no' ∙ before sites s (elim (cases_eq x s) [
      | inl e ↦ inr (subst (λ q. length (whole q) ≤ taken q) e (not_below (taken x) (length (whole x)) no'))
      | inr n ↦ later n there
    ])
  ]
    where
      not_below : (a b : ℕ) → nat_lt a b ≡ false → b ≤ a
      not_below a b h = elim (cases_lt a b) [ inl l ↦ absurd (true≢false (sym (lt-ltb a b l) ∙ h)) | inr l ↦ l ]

      later : x ≢ s → (has_site (x ∷ sites) s ≡ true) ⊎ (length (whole s) ≤ taken s) → (has_site sites s ≡ true) ⊎ (length (whole s) ≤ taken s)
      later n (inl h) = elim (or_cases (x == s) (has_site sites s) h) [ inl e ↦ absurd (true≢false (sym e ∙ ne_eqb x s n)) | inr q ↦ inl q ]
      later n (inr past) = inr past

  -- each is one
  reason_at : (s : ℕ) → taken s < length (whole s) → IsReasonFrom t s (states s) (take (taken s + 1) (whole s)) (reason_of (left_at gs lefts s))
  reason_at s more = elim (cases_eq (left_at gs lefts s) 0) [
    | inl none ↦ subst (λ z. IsReasonFrom t s (states s) (take (taken s + 1) (whole s)) (if z then Unlawful else NotSent)) (sym (eq-eqb (left_at gs lefts s) 0 none))
        (λ l. (lawful s).stops (let e : taken s ≡ limit s = omega (arith, none) in omega (arith, e, more)) (subst (λ n. AreLawfulFrom t s (states s) (take (n + 1) (whole s))) (omega (arith, none)) l))
    | inr some ↦ subst (λ z. IsReasonFrom t s (states s) (take (taken s + 1) (whole s)) (if z then Unlawful else NotSent)) (sym (ne_eqb (left_at gs lefts s) 0 some)) (
        let sum = length-append (entries_of s m.events) (left s) in
        let all = ap length (steps_are s) in
        let long = length-map (take (limit s) (whole s)) step_of in
        let front = length-take-le (limit s) (whole s) (lawful s).within in
        let same = taken_is s in
        let room : taken s + 1 ≤ limit s = omega (arith, sum, all, long, front, same, some) in
        let one = length-take-le (taken s + 1) (whole s) (omega (arith, more)) in
        let begin = shorter_begins (take (taken s + 1) (whole s)) (take (limit s) (whole s)) (whole s) (beginning_take (taken s + 1) (whole s)) (beginning_take (limit s) (whole s)) (omega (arith, one, front, room)) in
        lawful_beginning t s (states s) (take (taken s + 1) (whole s)) begin.0 (subst (AreLawfulFrom t s (states s)) (sym begin.1) (lawful s).lawful))
  ]

  each_stop : (sites : List ℕ) → AllByRecursion (IsStopFrom t states gs) (stops sites)
  each_stop [] = tt
  each_stop (x ∷ sites) = go (is_open x) refl (each_stop sites)
    where
      go : (z : Bool) → is_open x ≡ z → AllByRecursion (IsStopFrom t states gs) (stops sites) → AllByRecursion (IsStopFrom t states gs) (option_to_list (if z then Some (stop_here x) else None) ++ stops sites)
      go true e rest = let more : taken x < length (whole x) = ltb-true (taken x) (length (whole x)) e in (record { least = omega arith; within = omega (arith, more); reason = reason_at x more }, rest)
      go false e rest = rest

  stop_sites : (sites : List ℕ) → map (λ (stop : Stop). stop.site) (stops sites) ≡ filter is_open sites
  stop_sites [] = refl
  stop_sites (x ∷ sites) = go (is_open x) (stop_sites sites)
    where
      go : (z : Bool) → map (λ (stop : Stop). stop.site) (stops sites) ≡ filter is_open sites → map (λ (stop : Stop). stop.site) (option_to_list (if z then Some (stop_here x) else None) ++ stops sites) ≡ cond z (x ∷ filter is_open sites) (filter is_open sites)
      go true h = ap (λ l. x ∷ l) h
      go false h = h

  module _ (rising : IsStrictlyIncreasing (sites_of t)) (known : (s : ℕ) → has_site (sites_in gs) s ≡ true → is_site t s ≡ true) where
    -- each site is one of the topology's, or has no entries
    pub before_all : (s : ℕ) → before_stop (stops (sites_of t)) s (whole s) ≡ take (taken s) (whole s)
    before_all s = before (sites_of t) s (go (has_site (sites_in gs) s) refl)
      where
        go : (z : Bool) → has_site (sites_in gs) s ≡ z → (has_site (sites_of t) s ≡ true) ⊎ (length (whole s) ≤ taken s)
        go true e = inl (known s e)
        go false e = let none : length (whole s) ≡ 0 = ap length (none_there gs s e) in inr (omega (arith, none))

    pub ascending : IsStrictlyIncreasing (map (λ (stop : Stop). stop.site) (stops (sites_of t)))
    ascending = subst IsStrictlyIncreasing (sym (stop_sites (sites_of t))) (IsStrictlyIncreasing-filter is_open (sites_of t) rising)

    pub most_before : (others : List WorldEvent) → AreInOrder t states first others → ((s : ℕ) → IsBeginningOf (entries_from (clock s) (entries_of s others)) (whole s))
        → (s : ℕ) → length (entries_of s others) ≤ length (before_stop (stops (sites_of t)) s (whole s))
    most_before others is_run begin s =
        let few = most others is_run begin s in
        let same = ap length (before_all s) in
        let all = ap length (kept s) in
        let long = length-entries (clock s) (entries_of s m.events) in
        let taken_here = taken_is s in
        omega (arith, few, same, all, long, taken_here)

    -- what the merge came to, with the controllers and what is under way
    pub judgement : (judged : Judged) → judged.order ≡ order → judged.stops ≡ stops (sites_of t) → repeats (sites_in gs) ≡ false
        → LeavesUnderWay message_from first (sites_in gs) (steps_within gs ns) lefts (waiting judged.queues) → StandIfLawful t states gs judged.controllers.items → IsJudgement t states first gs judged
    judgement judged order_is stops_are once under_way stand =
        let kept_all : (s : ℕ) → entries_from (clock s) (entries_of s m.events) ≡ before_stop judged.stops s (whole s) =
        λ s. kept s ∙ sym (before_all s) ∙ ap (λ rows. before_stop rows s (whole s)) (sym stops_are) in
        record {
          events = m.events;
          in_turn = m.in_turn ∙ sym order_is;
          run = run;
          kept = kept_all;
          under_way = under_way m.events m.rest;
          ascending = subst (λ (rows : List Stop). IsStrictlyIncreasing (map (λ (stop : Stop). stop.site) rows)) (sym stops_are) ascending;
          each = subst (AllByRecursion (IsStopFrom t states gs)) (sym stops_are) (each_stop (sites_of t));
          most = subst (λ (rows : List Stop). (others : List WorldEvent) → AreInOrder t states first others
              → ((s : ℕ) → IsBeginningOf (entries_from (clock s) (entries_of s others)) (whole s)) → (s : ℕ) → length (entries_of s others) ≤ length (before_stop rows s (whole s))) (sym stops_are) most_before;
          stand = λ none. stand_behind t states gs m.events judged.controllers.items once run.lawful
              (λ s. kept_all s ∙ ap (λ rows. before_stop rows s (whole s)) none) stand;
        }

-- no run of beginnings of the segments has more than what stands before these stops
abbrev Most : Topology → (ℕ → State) → (ℕ → ℕ → List Message) → List Segment → List Stop → Type 0
Most t states first gs rows = (others : List WorldEvent) → AreInOrder t states first others
    → ((s : ℕ) → IsBeginningOf (entries_from (states s).clock (entries_of s others)) (journal_of gs s))
    → (s : ℕ) → length (entries_of s others) ≤ length (before_stop rows s (journal_of gs s))

some_refuse : (t : Topology) (states : ℕ → State) (first : ℕ → ℕ → List Message) (gs : List Segment) (rows : List Stop) → 0 < length rows → AllByRecursion (IsStopFrom t states gs) rows → Most t states first gs rows
    → (events : List WorldEvent) → AreInOrder t states first events → ((s : ℕ) → entries_from (states s).clock (entries_of s events) ≡ journal_of gs s) → ⊥
some_refuse t states first gs [] some each most events run comes = absurd (omega (arith, some))
some_refuse t states first gs (stop ∷ rows) some each most events run comes =
    let s = stop.site in
    let entries = journal_of gs s in
    let least = each.0.least in
    let within = each.0.within in
    let all : length (entries_of s events) ≡ length entries = sym (length-entries (states s).clock (entries_of s events)) ∙ ap length (comes s) in
    let bound = most events run (λ x. ([], append-nil _ ∙ comes x)) s in
    let cut : before_stop (stop ∷ rows) s entries ≡ take (stop.entry - 1) entries = ap (λ z. if z then take (stop.entry - 1) entries else before_stop rows s entries) (eq-eqb s s refl) in
    let short = ap length cut in
    let long = length-take-le (stop.entry - 1) entries (omega (arith, least, within)) in
    absurd (omega (arith, least, within, all, bound, short, long))

-- entries that stop come from no run
pub stops_refuse : (t : Topology) (states : ℕ → State) (first : ℕ → ℕ → List Message) (gs : List Segment) (judged : Judged) → IsJudgement t states first gs judged → 0 < length judged.stops
    → (events : List WorldEvent) → AreInOrder t states first events → ((s : ℕ) → entries_from (states s).clock (entries_of s events) ≡ journal_of gs s) → ⊥
stops_refuse t states first gs judged are some events run comes = some_refuse t states first gs judged.stops some are.each are.most events run comes

-- What is known of deadlocks that are not declared, after each event.
use Rattle.std.proofs.Common.{◌≡◌, ◌≢◌, ◌⊎◌, ℕ, ◌+◌, ◌≤◌, ◌<◌, max, Bool, true, false, not, ◌&&◌, ◌||◌, List, [], ◌∷◌, ◌++◌, ◌==◌, if◌then◌else◌, refl, sym, ap, ◌∙◌, subst, inl, inr, true≢false, append-nil, arith}
use Rattle.std.specs.List.{list_any}
use Rattle.std.proofs.lemmas.Bool.{cases_eq, cases_lt, eqb-true, eq-eqb, ne_eqb, and_parts, or_cases, ltb-true, lt-ltb, false_from_ne_true}
use Rattle.cmh_model3.specs.declared.frame.Frame.TheVariants.{Probe}
use Rattle.cmh_model3.specs.declared.frame.Message.{Message}
use Rattle.cmh_model3.specs.declared.event.Event.TheVariants.{Ask, Got}
use Rattle.cmh_model3.specs.Lists.{with_each, in_list, is_before, set_at}
use Rattle.cmh_model3.specs.Entries.{WorldEvent}
use Rattle.cmh_model3.specs.State.{counts, State, is_blocked, waits_for, passes}
use Rattle.cmh_model3.specs.Paths.{IsLocalPath, ReachesLocally, DependsOnItself}
use Rattle.cmh_model3.specs.Rules.{Accepts, after, changed, requests, probe_acts, clock_after, AreProbes}
use Rattle.cmh_model3.specs.Journals.{frames_to, message_from}
use Rattle.cmh_model3.specs.Waits.{is_ask, begins, ends}
use Rattle.cmh_model3.specs.Frames.{count}
use Rattle.cmh_model3.proofs.World.{is_request, World, Step, sent_on, got_on}
use Rattle.cmh_model3.proofs.Invariants.{AllKnown, Known, IsSource, IsLit, IsPassed}
use Rattle.std.specs.Prelude.{ltb}
use Rattle.cmh_model3.proofs.Moves.{got_probe}
use Rattle.cmh_model3.proofs.Counts.{in_with}
use Rattle.cmh_model3.proofs.Kept.{here}
use Rattle.cmh_model3.proofs.Settled.{stamp_same, since_after, clock_up}
use Rattle.cmh_model3.proofs.Outcomes.{path_same, counts_same}
use Rattle.cmh_model3.proofs.Askers.{asker_move}
use Rattle.cmh_model3.proofs.Marks.{mark_move, some_in, in_some, begins_ask, passes_in, in_passes}
use Rattle.cmh_model3.proofs.Lights.{Calm, known_calm, live_kept, sent_live, path_end, path_home}
use Rattle.cmh_model3.proofs.Sent.{each_probe}

and3_no : (a b c : Bool) → ((a && b) && c) ≡ false → a ≡ true → b ≡ true → c ≡ false
and3_no true true c h x y = h
and3_no true false c h x y = absurd (true≢false (sym y))
and3_no false b c h x y = absurd (true≢false (sym x))

not_before_itself : (m i : ℕ) → not (is_before m i m i) ≡ true
not_before_itself m i = go (cases_lt m m) (cases_lt i i)
  where
    go : (m < m) ⊎ (m ≤ m) → (i < i) ⊎ (i ≤ i) → not (is_before m i m i) ≡ true
    go (inl l) g = absurd (omega (arith, l))
    go g (inl l) = absurd (omega (arith, l))
    go (inr g) (inr h) = ap (λ z. not (z || ((m == m) && ltb i i))) (not_less m) ∙ ap (λ z. not ((m == m) && z)) (not_less i) ∙ no_and (m == m)
      where
        not_less : (q : ℕ) → ltb q q ≡ false
        not_less q = false_from_ne_true (ltb q q) (λ t. let l = ltb-true q q t in absurd (omega (arith, l)))

        no_and : (z : Bool) → not (z && false) ≡ true
        no_and true = refl
        no_and false = refl

not_before_low : (m i q : ℕ) → q ≤ m → not (is_before m i q i) ≡ true
not_before_low m i q l = ap not (false_from_ne_true (is_before m i q i) (λ t. elim (or_cases (ltb m q) ((m == q) && ltb i i) t) [
  | inl a ↦ let lt = ltb-true m q a in absurd (omega (arith, lt, l))
  | inr b ↦ let lt = ltb-true i i (and_parts (m == q) (ltb i i) b).1 in absurd (omega (arith, lt))
]))

module _ (home : ℕ → ℕ) (w : World) (e : WorldEvent) (n : World) (old : AllKnown home w) (st : Step home w e n) where
  abbrev v : State
  v = w.value e.site

  now_at : (x : ℕ) → home x ≡ e.site → n.value (home x) ≡ after home e.site (w.value e.site) e.entry.event e.entry.declared
  now_at x at = here home w e n old.holds.single st (home x) (sym at)

  -- a probe that comes is of a stamp that its site and its origin have
  probe_came : (a c i m j k : ℕ) → e.entry.event ≡ Got a c (Probe i m j k) → Accepts home e.site (w.value e.site) (Got a c (Probe i m j k)) → (m ≤ (n.value e.site).clock) × (m ≤ (w.value (home i)).stamp i)
  probe_came a c i m j k ev acc =
      let msg : Message = record { clock = c; frame = Probe i m j k } in
      let got : got_on a e.site e ≡ msg ∷ [] = ap (λ z. if z then message_from a e.entry.event else []) (eq-eqb e.site e.site refl) ∙ ap (message_from a) ev ∙ ap (λ z. if z then msg ∷ [] else []) (eq-eqb a a refl) in
      let none : sent_on a e.site e ≡ [] = ap (λ z. if z then frames_to e.site e.entry.sent else []) (ne_eqb e.site a (λ g. acc.0 (sym g))) in
      let queue : w.queue a e.site ≡ [] ++ msg ∷ n.queue a e.site = sym (append-nil (w.queue a e.site)) ∙ ap (λ l. w.queue a e.site ++ l) (sym none) ∙ st.links a e.site ∙ ap (λ l. l ++ n.queue a e.site) got in
      let at = old.holds.probes a e.site c i m j k [] (n.queue a e.site) queue in
      let clock : (n.value e.site).clock ≡ max (w.value e.site).clock c = ap (λ (v : State). v.clock) st.here ∙ ap (clock_after (w.value e.site).clock) ev in
      let low = at.3 in
      (omega (arith, clock, low), at.4)

  pub blocked_stamp : (i : ℕ) → is_blocked (w.value (home i)) i ≡ true → 1 ≤ (w.value (home i)).stamp i
  blocked_stamp i h = let r = some_in ((w.value (home i)).waits i) h in old.marks.asked i r.0 r.1

  -- ---- events that are no asks
  module _ (calm_event : is_ask e.entry.event ≡ false) where
    waits_shrink : (x y : ℕ) → home x ≡ e.site → waits_for (n.value e.site) x y ≡ true → waits_for (w.value e.site) x y ≡ true
    waits_shrink x y at h = elim (asker_move home e.site (w.value e.site) x y e.entry.event st.accepted at (sym (ap (λ v. waits_for v x y) st.here) ∙ h)) [
      | inl b ↦ absurd (true≢false (sym (begins_ask x y e.entry.event b.0) ∙ calm_event))
      | inr o ↦ o.0
    ]

    pub blocked_shrink : (x : ℕ) → home x ≡ e.site → is_blocked (n.value e.site) x ≡ true → is_blocked (w.value e.site) x ≡ true
    blocked_shrink x at h = let r = some_in ((n.value e.site).waits x) h in in_some ((w.value e.site).waits x) r.0 (waits_shrink x r.0 at r.1)

    stamp_stays : (x : ℕ) → (n.value e.site).stamp x ≡ (w.value e.site).stamp x
    stamp_stays x = ap (λ (v : State). v.stamp x) st.here ∙ stamp_same home e.site (w.value e.site) e.entry.event x calm_event

    since_stays : (x y : ℕ) → home x ≡ e.site → waits_for (n.value e.site) x y ≡ true → (n.value e.site).since x y ≡ (w.value e.site).since x y
    since_stays x y at g =
        let low : (w.value e.site).since x y ≤ (w.value e.site).stamp x = subst (λ z. (w.value z).since x y ≤ (w.value z).stamp x) at (old.holds.stamps.low x y) in
        let behind : (w.value e.site).stamp x ≤ (w.value e.site).clock = subst (λ z. (w.value z).stamp x ≤ (w.value z).clock) at (old.holds.stamps.behind x) in
        ap (λ (v : State). v.since x y) st.here ∙ (since_after home e.site (w.value e.site) e.entry.event x y low behind).0 (false_from_ne_true _ (λ b. true≢false (sym (begins_ask x y e.entry.event b) ∙ calm_event))) (sym (ap (λ v. waits_for v x y) st.here) ∙ g)

    count_shrink : (m i a b : ℕ) → home a ≡ e.site → counts (n.value e.site) m i a b ≡ true → counts (w.value e.site) m i a b ≡ true
    count_shrink m i a b at h =
        let parts = and_parts (waits_for (n.value e.site) a b) (not (is_before m i ((n.value e.site).since a b) a)) h in
        ap (λ z. z && not (is_before m i ((w.value e.site).since a b) a)) (waits_shrink a b at parts.0) ∙ ap (λ z. not (is_before m i z a)) (sym (since_stays a b at parts.0)) ∙ parts.1

    passes_shrink : (m i x : ℕ) → home x ≡ e.site → passes (n.value e.site) m i x ≡ true → passes (w.value e.site) m i x ≡ true
    passes_shrink m i x at h =
        let r = passes_in (n.value e.site) m i x h in
        in_passes (w.value e.site) m i x r.0 (waits_shrink x r.0 at r.1) (ap (λ z. not (is_before m i z x)) (sym (since_stays x r.0 at r.1)) ∙ r.2)

    passes_blocked : (m i x : ℕ) → passes (n.value e.site) m i x ≡ true → is_blocked (n.value e.site) x ≡ true
    passes_blocked m i x h = let r = passes_in (n.value e.site) m i x h in in_some ((n.value e.site).waits x) r.0 r.1

    wait_was : (j k : ℕ) → n.wait j k ≡ true → w.wait j k ≡ true
    wait_was j k y = elim (or_cases (begins j k e.entry.event) (not (ends j k e.entry.event) && w.wait j k) (sym (st.waits j k) ∙ y)) [
      | inl b ↦ absurd (true≢false (sym (begins_ask j k e.entry.event b) ∙ calm_event))
      | inr both ↦ (and_parts (not (ends j k e.entry.event)) (w.wait j k) both).1
    ]

    -- and light nothing for ask m of i
    module _ (i m : ℕ) (some : 1 ≤ m) (stamp : (w.value (home i)).stamp i ≡ m) (dark : (a c x y : ℕ) → e.entry.event ≡ Got a c (Probe i m x y) → probe_acts (w.value e.site) i m x y ≡ false) where
      mark_was : (p : ℕ) → home p ≡ e.site → (n.value e.site).marks p i ≡ m → (w.value e.site).marks p i ≡ m
      mark_was p at h =
          let now : (n.value e.site).marks p i ≡ (changed home e.site (w.value e.site) e.entry.event).marks p i = ap (λ (v : State). v.marks p i) st.here in
          elim (mark_move home e.site (w.value e.site) e.entry.event p i) [
            | inl same ↦ sym (now ∙ same) ∙ h
            | inr more ↦ elim more [
              | inl wiped ↦ let z = wiped.0 in absurd (omega (arith, h, now, z, some))
              | inr new ↦
                  let is : new.2 ≡ m = sym (now ∙ new.6) ∙ h in
                  absurd (true≢false (sym (subst (λ q. probe_acts (w.value e.site) i q new.3 p ≡ true) is new.5)
                  ∙ dark new.0 new.1 new.3 p (subst (λ q. e.entry.event ≡ Got new.0 new.1 (Probe i q new.3 p)) is new.4)))
            ]
          ]

      mark_now : (k : ℕ) → home k ≡ e.site → is_blocked (n.value e.site) k ≡ true → (w.value e.site).marks k i ≡ m → (n.value e.site).marks k i ≡ m
      mark_now k at blocked h =
          let now : (n.value e.site).marks k i ≡ (changed home e.site (w.value e.site) e.entry.event).marks k i = ap (λ (v : State). v.marks k i) st.here in
          elim (mark_move home e.site (w.value e.site) e.entry.event k i) [
            | inl same ↦ now ∙ same ∙ h
            | inr more ↦ elim more [
              | inl wiped ↦ elim wiped.1 [
                | inl idle ↦ absurd (true≢false (sym blocked ∙ ap (λ v. is_blocked v k) st.here ∙ idle))
                | inr ask ↦ absurd (true≢false (sym ask ∙ calm_event))
              ]
              | inr new ↦
                  let acc = subst (Accepts home e.site (w.value e.site)) new.4 st.accepted in
                  let low = (probe_came new.0 new.1 i new.2 new.3 k new.4 acc).1 in
                  let over = ltb-true ((w.value e.site).marks k i) new.2 (and_parts (passes (w.value e.site) new.2 i k && (w.value e.site).owed k new.3) (ltb ((w.value e.site).marks k i) new.2) new.5).1 in
                  absurd (omega (arith, low, over, h, stamp))
            ]
          ]

      calm : Calm home w e n old.holds old.marks st i m
      calm = record {
        start = λ p at h. mark_was p at h;
        count = λ a b low at h. count_shrink m i a b at h;
        kept = λ k at low h. (passes_shrink m i k at h, λ mark. mark_now k at (passes_blocked m i k h) mark);
        wait = λ j k low c y. wait_was j k y;
        got = λ c j k ev at owes.
            let acc = subst (Accepts home e.site (w.value e.site)) ev st.accepted in
            let low = (probe_came (home j) c i m j k ev acc).0 in
            let clock = ap (λ z. (n.value z).clock) at in (
              omega (arith, low, clock),
              λ pass'.
                  let pass : passes (n.value e.site) m i k ≡ true = ap (λ z. passes (n.value z) m i k) at ∙ pass' in
                  let passed = passes_shrink m i k (sym at) pass in
                  let owed : (w.value e.site).owed k j ≡ true = ap (λ z. (w.value z).owed k j) at ∙ owes in
                  let not_less = and3_no (passes (w.value e.site) m i k) ((w.value e.site).owed k j) (ltb ((w.value e.site).marks k i) m) (dark (home j) c j k ev) passed owed in
                  let most = old.marks.under k i in
                  let site = ap (λ z. (w.value z).marks k i) at in
                  let is : (w.value e.site).marks k i ≡ m = elim (cases_lt ((w.value e.site).marks k i) m) [
                    | inl l ↦ absurd (true≢false (sym (lt-ltb ((w.value e.site).marks k i) m l) ∙ not_less))
                    | inr ge ↦ omega (arith, ge, most, site, stamp)
                  ] in
                  ap (λ z. (n.value z).marks k i) (sym at) ∙ mark_now k (sym at) (passes_blocked m i k pass) is,
            );
      }

      pub known_quiet : Known home w i m → Known home n i m
      known_quiet h = known_calm home w e n old.holds old.marks st i m stamp calm h

  -- ---- an ask of another
  module _ (x : ℕ) (ks : List ℕ) (ev : e.entry.event ≡ Ask x ks) (i m : ℕ) (some : 1 ≤ m) (stamp : (w.value (home i)).stamp i ≡ m) (other : i ≢ x) where
    acc_ask : Accepts home e.site (w.value e.site) (Ask x ks)
    acc_ask = subst (Accepts home e.site (w.value e.site)) ev st.accepted

    marks_ask : (q : ℕ) → (n.value e.site).marks q i ≡ (w.value e.site).marks q i
    marks_ask q = ap (λ (v : State). v.marks q i) st.here ∙ ap (λ z. (changed home e.site (w.value e.site) z).marks q i) ev

    since_now : (a b : ℕ) → (n.value e.site).since a b ≡ (if (a == x) && in_list ks b then (w.value e.site).clock + 1 else (w.value e.site).since a b)
    since_now a b = ap (λ (v : State). v.since a b) st.here ∙ ap (λ z. (changed home e.site (w.value e.site) z).since a b) ev

    waits_now_ask : (a : ℕ) → (n.value e.site).waits a ≡ (if a == x then with_each ((w.value e.site).waits x) ks else (w.value e.site).waits a)
    waits_now_ask a = ap (λ (v : State). v.waits a) st.here ∙ ap (λ z. (changed home e.site (w.value e.site) z).waits a) ev

    -- a wait that the ask adds is younger than what its site had heard of
    not_new : (a b : ℕ) → m ≤ (w.value e.site).clock → not (is_before m i ((n.value e.site).since a b) a) ≡ true → ((a == x) && in_list ks b) ≡ false
    not_new a b low h = false_from_ne_true _ (λ y.
        let new = since_now a b ∙ ap (λ z. if z then (w.value e.site).clock + 1 else (w.value e.site).since a b) y in
        absurd (true≢false (sym h ∙ ap (λ z. not (z || ((m == (n.value e.site).since a b) && ltb i a))) (lt-ltb m ((n.value e.site).since a b) (omega (arith, new, low))))))

    was_waiting : (a b : ℕ) → ((a == x) && in_list ks b) ≡ false → waits_for (n.value e.site) a b ≡ true → waits_for (w.value e.site) a b ≡ true
    was_waiting a b other h = elim (cases_eq a x) [
      | inr far ↦ sym (ap (λ z. in_list z b) (waits_now_ask a ∙ ap (λ z. if z then with_each ((w.value e.site).waits x) ks else (w.value e.site).waits a) (ne_eqb a x far))) ∙ h
      | inl is_x ↦
          let both = sym (ap (λ z. in_list z b) (waits_now_ask a ∙ ap (λ z. if z then with_each ((w.value e.site).waits x) ks else (w.value e.site).waits a) (eq-eqb a x is_x)) ∙ in_with ((w.value e.site).waits x) ks b) ∙ h in
          let not_in : in_list ks b ≡ false = sym (ap (λ z. z && in_list ks b) (eq-eqb a x is_x)) ∙ other in
          elim (or_cases (in_list ((w.value e.site).waits x) b) (in_list ks b) both) [
            | inl y ↦ ap (λ q. in_list ((w.value e.site).waits q) b) is_x ∙ y
            | inr y ↦ absurd (true≢false (sym y ∙ not_in))
          ]
    ]

    since_was : (a b : ℕ) → ((a == x) && in_list ks b) ≡ false → (n.value e.site).since a b ≡ (w.value e.site).since a b
    since_was a b other = since_now a b ∙ ap (λ z. if z then (w.value e.site).clock + 1 else (w.value e.site).since a b) other

    count_ask : (a b : ℕ) → m ≤ (w.value e.site).clock → counts (n.value e.site) m i a b ≡ true → counts (w.value e.site) m i a b ≡ true
    count_ask a b low h =
        let parts = and_parts (waits_for (n.value e.site) a b) (not (is_before m i ((n.value e.site).since a b) a)) h in
        let other = not_new a b low parts.1 in
        ap (λ z. z && not (is_before m i ((w.value e.site).since a b) a)) (was_waiting a b other parts.0) ∙ ap (λ z. not (is_before m i z a)) (sym (since_was a b other)) ∙ parts.1

    calm_ask : Calm home w e n old.holds old.marks st i m
    calm_ask = record {
      start = λ p at h. sym (marks_ask p) ∙ h;
      count = λ a b low at h. count_ask a b low h;
      kept = λ k at low h.
          let r = passes_in (n.value e.site) m i k h in
          let other = not_new k r.0 low r.2 in
          (in_passes (w.value e.site) m i k r.0 (was_waiting k r.0 other r.1) (ap (λ z. not (is_before m i z k)) (sym (since_was k r.0 other)) ∙ r.2), λ mark. marks_ask k ∙ mark);
      wait = λ j k low c y.
          let no_begin : begins j k e.entry.event ≡ false = ap (begins j k) ev ∙ elim (cases_eq j x) [
            | inr far ↦ ap (λ z. z && in_list ks k) (ne_eqb x j (λ h. far (sym h)))
            | inl is_x ↦
                let at : home j ≡ e.site = ap home is_x ∙ acc_ask.0 in
                let parts = and_parts (waits_for (n.value (home j)) j k) (not (is_before m i ((n.value (home j)).since j k) j)) c in
                let other = not_new j k (low at) (ap (λ z. not (is_before m i ((n.value z).since j k) j)) (sym at) ∙ parts.1) in
                ap (λ z. z && in_list ks k) (eq-eqb x j (sym is_x) ∙ sym (eq-eqb j x is_x)) ∙ other
          ] in
          sym (st.waits j k ∙ ap (λ z. z || (not (ends j k e.entry.event) && w.wait j k)) no_begin ∙ ap (λ z. not z && w.wait j k) (ap (ends j k) ev)) ∙ y;
      got = λ c j k h at owes. absurd (cc (sym ev ∙ h));
    }

    pub known_ask_other : Known home w i m → Known home n i m
    known_ask_other h = known_calm home w e n old.holds old.marks st i m stamp calm_ask h

  -- ---- an own ask
  module _ (i : ℕ) (ks : List ℕ) (ev : e.entry.event ≡ Ask i ks) where
    abbrev own_stamp : ℕ
    own_stamp = (w.value e.site).clock + 1

    abbrev v_ask : State
    v_ask = changed home e.site (w.value e.site) (Ask i ks)

    waits_ask : (n.value e.site).waits ≡ v_ask.waits
    waits_ask = ap (λ (v : State). v.waits) st.here ∙ ap (λ z. (changed home e.site (w.value e.site) z).waits) ev

    since_ask : (n.value e.site).since ≡ v_ask.since
    since_ask = ap (λ (v : State). v.since) st.here ∙ ap (λ z. (changed home e.site (w.value e.site) z).since) ev

    fresh : (p : ℕ) → (n.value (home p)).marks p i ≢ own_stamp
    fresh p h =
        let acc = subst (Accepts home e.site (w.value e.site)) ev st.accepted in
        let low = old.marks.under p i in
        let behind = old.holds.stamps.behind i in
        let clock = ap (λ z. (w.value z).clock) acc.0 in
        elim (cases_eq (home p) e.site) [
          | inr far ↦ let same = ap (λ (v : State). v.marks p i) (st.elsewhere (home p) far) in absurd (omega (arith, same, h, low, behind, clock))
          | inl at ↦
              let now : (n.value (home p)).marks p i ≡ (changed home e.site (w.value e.site) e.entry.event).marks p i = ap (λ (v : State). v.marks p i) (now_at p at) in
              let was = ap (λ z. (w.value z).marks p i) at in
              elim (mark_move home e.site (w.value e.site) e.entry.event p i) [
                | inl same ↦ absurd (omega (arith, same, now, was, h, low, behind, clock))
                | inr more ↦ elim more [
                  | inl wiped ↦ let z = wiped.0 in absurd (omega (arith, z, now, h))
                  | inr new ↦ absurd (cc (sym ev ∙ new.4))
                ]
              ]
        ]

    lit_ask : (q : ℕ) → IsLit home n i own_stamp q → ReachesLocally home e.site v_ask own_stamp i i q × (home q ≡ e.site)
    lit_ask q lit = go lit.0 lit.1 lit.2.0 lit.2.1
      where
        go : (p : ℕ) → IsSource home n i own_stamp p → (xs : List ℕ) → IsLocalPath home (home p) (n.value (home p)) own_stamp i p xs q → ReachesLocally home e.site v_ask own_stamp i i q × (home q ≡ e.site)
        go p (inr mark) xs path = absurd (fresh p mark)
        go p (inl same) xs path =
            let acc = subst (Accepts home e.site (w.value e.site)) ev st.accepted in
            let at : home p ≡ e.site = ap home same ∙ acc.0 in
            let here_path : IsLocalPath home e.site (n.value e.site) own_stamp i i xs q = subst (λ z. IsLocalPath home e.site (n.value e.site) own_stamp i z xs q) same (subst (λ z. IsLocalPath home z (n.value z) own_stamp i p xs q) at path) in
            ((xs, path_same home e.site (n.value e.site) v_ask own_stamp i i xs q waits_ask since_ask here_path), path_home home e.site (n.value e.site) own_stamp i i xs q acc.0 here_path)

    opened : (xs : List ℕ) → IsLocalPath home e.site v_ask own_stamp i i (xs ++ (i ∷ [])) i → DependsOnItself home e.site v_ask own_stamp i
    opened [] h = (i, [], h)
    opened (y ∷ xs) h = (y, xs ++ (i ∷ []), h)

    pub known_own_ask : (probes : List (ℕ × Message)) → e.entry.sent ≡ requests home e.site own_stamp i ks ++ probes → (DependsOnItself home e.site v_ask own_stamp i → ⊥) → AreProbes home e.site v_ask own_stamp i own_stamp i probes
        → ((j k : ℕ) → count (is_request j k) (frames_to (home k) probes) ≡ 0) → is_blocked (n.value e.site) i ≡ true → Known home n i own_stamp
    known_own_ask probes sent free are blind blocked = record {
      near = λ j k lit y c same is_i.
          let reach = lit_ask j lit in
          let cnt : counts v_ask own_stamp i j k ≡ true = sym (counts_same (n.value e.site) v_ask own_stamp i j k waits_ask since_ask) ∙ ap (λ z. counts (n.value z) own_stamp i j k) (sym reach.1) ∙ c in
          let to_i : counts v_ask own_stamp i j i ≡ true = subst (λ z. counts v_ask own_stamp i j z ≡ true) is_i cnt in
          let at_i : home i ≡ e.site = sym (ap home is_i) ∙ sym same ∙ reach.1 in
          free (opened reach.0.0 (path_end home e.site v_ask own_stamp i i reach.0.0 j i reach.0.1 to_i at_i));
      far = λ j k lit y c apart.
          let reach = lit_ask j lit in
          let cnt : counts v_ask own_stamp i j k ≡ true = sym (counts_same (n.value e.site) v_ask own_stamp i j k waits_ask since_ask) ∙ ap (λ z. counts (n.value z) own_stamp i j k) (sym reach.1) ∙ c in
          let has = (each_probe home e.site v_ask own_stamp i own_stamp i probes are).all j k reach.0 cnt (λ g. apart (reach.1 ∙ sym g)) in
          inl (sent_live home w e n old.holds old.marks st i own_stamp j k own_stamp (requests home e.site own_stamp i ks) probes sent (blind j k) has (sym reach.1) apart y);
      own = fresh i;
    }

  -- ---- a probe of i that comes and acts
  module _ (a c2 i m x y : ℕ) (ev : e.entry.event ≡ Got a c2 (Probe i m x y)) (some : 1 ≤ m) (stamp : (w.value (home i)).stamp i ≡ m) (acts : probe_acts (w.value e.site) i m x y ≡ true) where
    acc_got : Accepts home e.site (w.value e.site) (Got a c2 (Probe i m x y))
    acc_got = subst (Accepts home e.site (w.value e.site)) ev st.accepted

    no_ask : is_ask e.entry.event ≡ false
    no_ask = ap is_ask ev

    waits_got : (n.value e.site).waits ≡ (w.value e.site).waits
    waits_got = ap (λ (v : State). v.waits) st.here ∙ ap (λ z. (changed home e.site (w.value e.site) z).waits) ev ∙ (got_probe home e.site (w.value e.site) a c2 i m x y).1

    since_got : (n.value e.site).since ≡ (w.value e.site).since
    since_got = ap (λ (v : State). v.since) st.here ∙ ap (λ z. (changed home e.site (w.value e.site) z).since) ev ∙ go (probe_acts (w.value e.site) i m x y)
      where
        go : (z : Bool) → (if z then record (w.value e.site) { marks = set_at (w.value e.site).marks y (set_at ((w.value e.site).marks y) i m) } else w.value e.site).since ≡ (w.value e.site).since
        go true = refl
        go false = refl

    marks_got : (k : ℕ) → (n.value e.site).marks k i ≡ (if k == y then m else (w.value e.site).marks k i)
    marks_got k =
        ap (λ (v : State). v.marks k i) st.here ∙ ap (λ z. (changed home e.site (w.value e.site) z).marks k i) ev
        ∙ ap (λ b. (if b then record (w.value e.site) { marks = set_at (w.value e.site).marks y (set_at ((w.value e.site).marks y) i m) } else w.value e.site).marks k i) acts
        ∙ go (k == y) (eqb-true k y)
      where
        go : (z : Bool) → (z ≡ true → k ≡ y) → (if z then (λ q. if q == i then m else (w.value e.site).marks y q) else (w.value e.site).marks k) i ≡ (if z then m else (w.value e.site).marks k i)
        go true same = ap (λ b. if b then m else (w.value e.site).marks y i) (eq-eqb i i refl)
        go false same = refl

    marks_other : (k : ℕ) → k ≢ y → (n.value e.site).marks k i ≡ (w.value e.site).marks k i
    marks_other k far = marks_got k ∙ ap (λ z. if z then m else (w.value e.site).marks k i) (ne_eqb k y far)

    marks_new : (n.value e.site).marks y i ≡ m
    marks_new = marks_got y ∙ ap (λ z. if z then m else (w.value e.site).marks y i) (eq-eqb y y refl)

    passes_got : (k : ℕ) → passes (n.value e.site) m i k ≡ passes (w.value e.site) m i k
    passes_got k = ap (λ r. list_any (λ q. not (is_before m i ((n.value e.site).since k q) k)) (r k)) waits_got ∙ ap (λ r. list_any (λ q. not (is_before m i (r k q) k)) ((w.value e.site).waits k)) since_got

    mark_stays : (k : ℕ) → (w.value e.site).marks k i ≡ m → (n.value e.site).marks k i ≡ m
    mark_stays k h = elim (cases_eq k y) [ inl g ↦ marks_got k ∙ ap (λ z. if z then m else (w.value e.site).marks k i) (eq-eqb k y g) | inr far ↦ marks_other k far ∙ h ]

    -- what is lit was lit, or y reaches it
    lit_got : (q : ℕ) → IsLit home n i m q → IsLit home w i m q ⊎ (ReachesLocally home e.site (w.value e.site) m i y q × (home q ≡ e.site))
    lit_got q lit = go lit.0 lit.1 lit.2.0 lit.2.1
      where
        go : (p : ℕ) → IsSource home n i m p → (xs : List ℕ) → IsLocalPath home (home p) (n.value (home p)) m i p xs q → IsLit home w i m q ⊎ (ReachesLocally home e.site (w.value e.site) m i y q × (home q ≡ e.site))
        go p source xs path = elim (cases_eq (home p) e.site) [
          | inr far ↦
              let same = st.elsewhere (home p) far in
              let was : IsSource home w i m p = elim source [ inl s ↦ inl s | inr s ↦ inr (sym (ap (λ (v : State). v.marks p i) same) ∙ s) ] in
              inl (p, was, (xs, subst (λ v. IsLocalPath home (home p) v m i p xs q) same path))
          | inl at ↦
              let here_path : IsLocalPath home e.site (w.value e.site) m i p xs q = path_same home e.site (n.value e.site) (w.value e.site) m i p xs q waits_got since_got (subst (λ z. IsLocalPath home z (n.value z) m i p xs q) at path) in
              elim (cases_eq p y) [
                | inl g ↦ inr ((xs, subst (λ z. IsLocalPath home e.site (w.value e.site) m i z xs q) g here_path), path_home home e.site (w.value e.site) m i p xs q at here_path)
                | inr other ↦
                    let was : IsSource home w i m p = elim source [ inl s ↦ inl s | inr s ↦ inr (ap (λ z. (w.value z).marks p i) at ∙ sym (marks_other p other) ∙ ap (λ z. (n.value z).marks p i) (sym at) ∙ s) ] in
                    inl (p, was, (xs, subst (λ z. IsLocalPath home z (w.value z) m i p xs q) (sym at) here_path))
              ]
        ]

    passed_got : (k : ℕ) → IsPassed home w i m k → IsPassed home n i m k
    passed_got k p = elim (cases_eq (home k) e.site) [
      | inr far ↦ subst (λ (v : State). (m ≤ v.clock) × (passes v m i k ≡ true → v.marks k i ≡ m)) (sym (st.elsewhere (home k) far)) p
      | inl at ↦
          let low = p.0 in
          let up = clock_up home w e n st (home k) in (
            omega (arith, low, up),
            λ pass.
                let passed : passes (w.value (home k)) m i k ≡ true = ap (λ z. passes (w.value z) m i k) at ∙ sym (passes_got k) ∙ ap (λ z. passes (n.value z) m i k) (sym at) ∙ pass in
                ap (λ z. (n.value z).marks k i) at ∙ mark_stays k (ap (λ z. (w.value z).marks k i) (sym at) ∙ p.1 passed),
          )
    ]

    -- i is blocked and its newest ask is this one: it passes
    i_passes : home i ≡ e.site → is_blocked (w.value (home i)) i ≡ true → passes (w.value e.site) m i i ≡ true
    i_passes at blocked =
        let r = some_in ((w.value e.site).waits i) (ap (λ z. is_blocked (w.value z) i) (sym at) ∙ blocked) in
        let low : (w.value e.site).since i r.0 ≤ m = subst (λ z. (w.value z).since i r.0 ≤ m) at (subst (λ z. (w.value (home i)).since i r.0 ≤ z) stamp (old.holds.stamps.low i r.0)) in
        in_passes (w.value e.site) m i i r.0 r.1 (not_before_low m i ((w.value e.site).since i r.0) low)

    pub known_lit : (ReachesLocally home e.site (w.value e.site) m i y i × (passes (w.value e.site) m i i ≡ true) → ⊥) → AreProbes home e.site (w.value e.site) (max (w.value e.site).clock c2) i m y e.entry.sent
        → ((j k : ℕ) → count (is_request j k) (frames_to (home k) e.entry.sent) ≡ 0) → is_blocked (w.value (home i)) i ≡ true → Known home w i m → Known home n i m
    known_lit free are blind blocked h = record {
      near = λ j k lit wait c same is_i. elim (lit_got j lit) [
        | inl was ↦ h.near j k was (wait_was no_ask j k wait) (count_was j k c) same is_i
        | inr reach ↦
            let cnt : counts (w.value e.site) m i j k ≡ true = sym (counts_same (n.value e.site) (w.value e.site) m i j k waits_got since_got) ∙ ap (λ z. counts (n.value z) m i j k) (sym reach.1) ∙ c in
            let to_i : counts (w.value e.site) m i j i ≡ true = subst (λ z. counts (w.value e.site) m i j z ≡ true) is_i cnt in
            let at_i : home i ≡ e.site = sym (ap home is_i) ∙ sym same ∙ reach.1 in
            free ((reach.0.0 ++ (i ∷ []), path_end home e.site (w.value e.site) m i y reach.0.0 j i reach.0.1 to_i at_i), i_passes at_i blocked)
      ];
      far = λ j k lit wait c apart. elim (lit_got j lit) [
        | inl was ↦ elim (h.far j k was (wait_was no_ask j k wait) (count_was j k c) apart) [
          | inr p ↦ inr (passed_got k p)
          | inl p ↦ elim (live_kept home w e n old.holds old.marks st i m j k apart wait p) [
            | inl live ↦ inl live
            | inr came ↦
                let is_y : k ≡ y = cc (sym came.2 ∙ ev) in
                let low = (probe_came a c2 i m x y ev acc_got).0 in
                let clock = ap (λ z. (n.value z).clock) came.1 in
                inr (omega (arith, low, clock), λ pass. ap (λ z. (n.value z).marks k i) (sym came.1) ∙ ap (λ z. (n.value e.site).marks z i) is_y ∙ marks_new)
          ]
        ]
        | inr reach ↦
            let cnt : counts (w.value e.site) m i j k ≡ true = sym (counts_same (n.value e.site) (w.value e.site) m i j k waits_got since_got) ∙ ap (λ z. counts (n.value z) m i j k) (sym reach.1) ∙ c in
            let has = (each_probe home e.site (w.value e.site) (max (w.value e.site).clock c2) i m y e.entry.sent are).all j k reach.0 cnt (λ g. apart (reach.1 ∙ sym g)) in
            inl (sent_live home w e n old.holds old.marks st i m j k (max (w.value e.site).clock c2) [] e.entry.sent refl (blind j k) has (sym reach.1) apart wait)
      ];
      own = λ mark. elim (cases_eq (home i) e.site) [
        | inr far ↦ h.own (sym (ap (λ (v : State). v.marks i i) (st.elsewhere (home i) far)) ∙ mark)
        | inl at ↦ elim (cases_eq i y) [
          | inl g ↦ free (([], sym g), i_passes at blocked)
          | inr other ↦ h.own (ap (λ z. (w.value z).marks i i) at ∙ sym (marks_other i other) ∙ ap (λ z. (n.value z).marks i i) (sym at) ∙ mark)
        ]
      ];
    }
      where
        count_was : (j k : ℕ) → counts (n.value (home j)) m i j k ≡ true → counts (w.value (home j)) m i j k ≡ true
        count_was j k c = elim (cases_eq (home j) e.site) [
          | inl at ↦ ap (λ z. counts (w.value z) m i j k) at ∙ sym (counts_same (n.value e.site) (w.value e.site) m i j k waits_got since_got) ∙ ap (λ z. counts (n.value z) m i j k) (sym at) ∙ c
          | inr far ↦ sym (ap (λ v. counts v m i j k) (st.elsewhere (home j) far)) ∙ c
        ]

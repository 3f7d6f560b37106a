-- No silent deadlock.
use Rattle.std.proofs.Common.{◌≡◌, ◌≢◌, ◌⊎◌, ℕ, ◌+◌, max, Bool, true, false, not, ◌&&◌, ◌||◌, List, [], ◌∷◌, ◌++◌, ◌==◌, if◌then◌else◌, refl, sym, ap, ◌∙◌, subst, inl, inr, Option, None, Some, MatchBool, true≢false, append-nil, append_assoc, length, drop, arith}
use Rattle.std.proofs.lemmas.Bool.{cases_Bool, cases_eq, eq-eqb, ne_eqb}
use Rattle.cmh_model3.specs.declared.frame.Frame.TheVariants.{Request, Reply as Reply_frame, Withdraw as Withdraw_frame, Probe}
use Rattle.cmh_model3.specs.declared.frame.Message.{Message}
use Rattle.cmh_model3.specs.declared.event.Event.{Event}
use Rattle.cmh_model3.specs.declared.event.Event.TheVariants.{Ask, Reply, Withdraw, Got, Turn}
use Rattle.cmh_model3.specs.Lists.{with_each, in_list, is_nonempty, is_before, without, without_all, set_at, set_pair}
use Rattle.cmh_model3.specs.Entries.{WorldEvent}
use Rattle.cmh_model3.specs.State.{counts, State, is_blocked, waits_for, with_waits, passes}
use Rattle.cmh_model3.specs.Paths.{IsPath, DependsOnItself, ReachesLocally}
use Rattle.cmh_model3.specs.Rules.{Accepts, Sends, after, changed, requests, declared_after, newly, probe_acts, DeclaresOrProbes, AreProbes}
use Rattle.cmh_model3.specs.Runs.{sendings, receipts, state_of, IsRun}
use Rattle.cmh_model3.specs.Waits.{is_ask, Waits}
use Rattle.cmh_model3.specs.Laws.{NoneMissed}
use Rattle.cmh_model3.proofs.World.{is_request, World, Step}
use Rattle.cmh_model3.proofs.Invariants.{AllKnown, Known, LiveProbe, IsLit, StepKeepsKnown}
use Rattle.cmh_model3.proofs.Counts.{outcome_counts}
use Rattle.cmh_model3.proofs.Kept.{here}
use Rattle.cmh_model3.proofs.Settled.{stamp_same}
use Rattle.cmh_model3.proofs.Held.{asked, all_kept}
use Rattle.cmh_model3.proofs.Marks.{marks_kept, in_some, in_passes}
use Rattle.cmh_model3.proofs.Lights.{path_end, path_home}
use Rattle.cmh_model3.proofs.Known.{blocked_stamp, blocked_shrink, known_quiet, known_ask_other, known_own_ask, known_lit}
use Rattle.cmh_model3.proofs.Runs.{world_of, one_step, holds_first}

declared_before : (home : ℕ → ℕ) (known : ℕ → Bool) (d : Option ℕ) (i : ℕ) → declared_after known d i ≡ false → known i ≡ false
declared_before home known None i h = h
declared_before home known (Some x) i h = elim (cases_eq i x) [
  | inl e ↦ absurd (true≢false (sym (ap (λ z. if z then true else known i) (eq-eqb i x e)) ∙ h))
  | inr n ↦ sym (ap (λ z. if z then true else known i) (ne_eqb i x n)) ∙ h
]

with_declared : (v : State) (p : ℕ) (ks : List ℕ) (i : ℕ) → is_blocked (with_waits v p ks) i ≡ true → (with_waits v p ks).declared i ≡ false → v.declared i ≡ false
with_declared v p ks i blocked h = go (is_nonempty ks) refl
  where
    go : (z : Bool) → is_nonempty ks ≡ z → v.declared i ≡ false
    go true y = sym (ap (λ z. (if z then v.declared else set_at v.declared p false) i) y) ∙ h
    go false y = elim (cases_eq i p) [
      | inl e ↦ absurd (true≢false (sym blocked ∙ ap (λ z. is_nonempty (if z then ks else v.waits i)) (eq-eqb i p e) ∙ y))
      | inr n ↦ sym (ap (λ z. (if z then v.declared else set_at v.declared p false) i) y ∙ ap (λ z. if z then false else v.declared i) (ne_eqb i p n)) ∙ h
    ]

-- who is blocked and not declared afterwards was not declared before, but for its own ask
declared_was : (home : ℕ → ℕ) (s : ℕ) (v : State) (ev : Event) (i : ℕ) → is_ask ev ≡ false → is_blocked (changed home s v ev) i ≡ true → (changed home s v ev).declared i ≡ false → v.declared i ≡ false
declared_was home s v (Ask x ks) i calm blocked h = absurd (true≢false calm)
declared_was home s v (Reply x j) i calm blocked h = go (home j == s) blocked h
  where
    go : (z : Bool) → is_blocked (if z then with_waits (record v { owed = set_pair v.owed x j false }) j (without (v.waits j) x) else record v { owed = set_pair v.owed x j false }) i ≡ true
        → (if z then with_waits (record v { owed = set_pair v.owed x j false }) j (without (v.waits j) x) else record v { owed = set_pair v.owed x j false }).declared i ≡ false → v.declared i ≡ false
    go true b g = with_declared (record v { owed = set_pair v.owed x j false }) j (without (v.waits j) x) i b g
    go false b g = g
declared_was home s v (Withdraw j ks) i calm blocked h =
    let left : State = record v {
      leaving = (λ x y. (((x == j) && not (home y == s)) && in_list ks y) || v.leaving x y);
      owed = (λ x y. not (((y == j) && (home x == s)) && in_list ks x) && v.owed x y);
    } in
    with_declared left j (without_all (v.waits j) ks) i blocked h
declared_was home s v (Turn d) i calm blocked h = h
declared_was home s v (Got a c (Request x y)) i calm blocked h = h
declared_was home s v (Got a c (Reply_frame x j)) i calm blocked h = go (waits_for v j x) blocked h
  where
    go : (z : Bool) → is_blocked (if z then with_waits v j (without (v.waits j) x) else record v { leaving = set_pair v.leaving j x false }) i ≡ true
        → (if z then with_waits v j (without (v.waits j) x) else record v { leaving = set_pair v.leaving j x false }).declared i ≡ false → v.declared i ≡ false
    go true b g = with_declared v j (without (v.waits j) x) i b g
    go false b g = g
declared_was home s v (Got a c (Withdraw_frame x y)) i calm blocked h = h
declared_was home s v (Got a c (Probe o m x y)) i calm blocked h = go (probe_acts v o m x y) h
  where
    go : (z : Bool) → (if z then record v { marks = set_at v.marks y (set_at (v.marks y) o m) } else v).declared i ≡ false → v.declared i ≡ false
    go true g = g
    go false g = g

module _ (home : ℕ → ℕ) (w : World) (e : WorldEvent) (n : World) (old : AllKnown home w) (st : Step home w e n) (i : ℕ) (blocked : is_blocked (n.value (home i)) i ≡ true) (undeclared : (n.value (home i)).declared i ≡ false) where
  at_site : home i ≡ e.site → n.value (home i) ≡ after home e.site (w.value e.site) e.entry.event e.entry.declared
  at_site at = here home w e n old.holds.single st (home i) (sym at)

  changed_undeclared : home i ≡ e.site → (changed home e.site (w.value e.site) e.entry.event).declared i ≡ false
  changed_undeclared at = declared_before home (changed home e.site (w.value e.site) e.entry.event).declared e.entry.declared i (sym (ap (λ (v : State). v.declared i) (at_site at)) ∙ undeclared)

  not_declared : (v : State) → home i ≡ e.site → v.declared i ≡ false → e.entry.declared ≡ newly v i → ⊥
  not_declared v at un d =
      let some : e.entry.declared ≡ Some i = d ∙ ap (λ z. if z then None else Some i) un in
      true≢false (sym (ap (λ z. if z then true else (changed home e.site (w.value e.site) e.entry.event).declared i) (eq-eqb i i refl))
      ∙ sym (ap (λ d. declared_after (changed home e.site (w.value e.site) e.entry.event).declared d i) some) ∙ sym (ap (λ (v : State). v.declared i) (at_site at)) ∙ undeclared)

  module _ (calm : is_ask e.entry.event ≡ false) where
    was_blocked : is_blocked (w.value (home i)) i ≡ true
    was_blocked = elim (cases_eq (home i) e.site) [
      | inl at ↦ ap (λ z. is_blocked (w.value z) i) at ∙ blocked_shrink home w e n old st calm i at (ap (λ z. is_blocked (n.value z) i) (sym at) ∙ blocked)
      | inr far ↦ ap (λ v. is_blocked v i) (sym (st.elsewhere (home i) far)) ∙ blocked
    ]

    was_undeclared : (w.value (home i)).declared i ≡ false
    was_undeclared = elim (cases_eq (home i) e.site) [
      | inl at ↦ ap (λ z. (w.value z).declared i) at ∙ declared_was home e.site (w.value e.site) e.entry.event i calm (sym (ap (λ v. is_blocked v i) (at_site at)) ∙ blocked) (changed_undeclared at)
      | inr far ↦ ap (λ (v : State). v.declared i) (sym (st.elsewhere (home i) far)) ∙ undeclared
    ]

    same_stamp : (w.value (home i)).stamp i ≡ (n.value (home i)).stamp i
    same_stamp = elim (cases_eq (home i) e.site) [
      | inl at ↦ sym (ap (λ (v : State). v.stamp i) (at_site at) ∙ stamp_same home e.site (w.value e.site) e.entry.event i calm ∙ ap (λ z. (w.value z).stamp i) (sym at))
      | inr far ↦ ap (λ (v : State). v.stamp i) (sym (st.elsewhere (home i) far))
    ]

    abbrev m : ℕ
    m = (w.value (home i)).stamp i

    was_known : Known home w i m
    was_known = old.known i was_blocked was_undeclared

    quiet : ((a c x y : ℕ) → e.entry.event ≡ Got a c (Probe i m x y) → probe_acts (w.value e.site) i m x y ≡ false) → Known home n i ((n.value (home i)).stamp i)
    quiet dark = subst (Known home n i) same_stamp (known_quiet home w e n old st calm i m (blocked_stamp home w e n old st i was_blocked) refl dark was_known)

    probe_known : (a c o q x y : ℕ) → e.entry.event ≡ Got a c (Probe o q x y) → Accepts home e.site (w.value e.site) (Got a c (Probe o q x y)) → Sends home e.site (w.value e.site) (Got a c (Probe o q x y)) e.entry.sent e.entry.declared → Known home n i ((n.value (home i)).stamp i)
    probe_known a c o q x y ev acc out = elim (cases_eq o i) [
      | inr other ↦ quiet (λ a2 c2 x2 y2 h. absurd (other (cc (sym ev ∙ h))))
      | inl is_i ↦ elim (cases_eq q m) [
        | inr other ↦ quiet (λ a2 c2 x2 y2 h. absurd (other (cc (sym ev ∙ h))))
        | inl is_m ↦ go (probe_acts (w.value e.site) o q x y) refl out is_i is_m
      ]
    ]
      where
        dark : probe_acts (w.value e.site) o q x y ≡ false → o ≡ i → q ≡ m → (a2 c2 x2 y2 : ℕ) → e.entry.event ≡ Got a2 c2 (Probe i m x2 y2) → probe_acts (w.value e.site) i m x2 y2 ≡ false
        dark acts is_i is_m a2 c2 x2 y2 h =
            let ex : x ≡ x2 = cc (sym ev ∙ h) in
            let ey : y ≡ y2 = cc (sym ev ∙ h) in
            subst (λ z. probe_acts (w.value e.site) z m x2 y2 ≡ false) is_i
            (subst (λ z. probe_acts (w.value e.site) o z x2 y2 ≡ false) is_m (subst (λ z. probe_acts (w.value e.site) o q z y2 ≡ false) ex (subst (λ z. probe_acts (w.value e.site) o q x z ≡ false) ey acts)))

        go : (z : Bool) → probe_acts (w.value e.site) o q x y ≡ z
            → MatchBool z (DeclaresOrProbes home (ReachesLocally home e.site (w.value e.site) q o y o × (passes (w.value e.site) q o o ≡ true)) e.site (w.value e.site) (max (w.value e.site).clock c) o q y e.entry.sent e.entry.declared) ((e.entry.sent ≡ []) × (e.entry.declared ≡ None))
            → o ≡ i → q ≡ m → Known home n i ((n.value (home i)).stamp i)
        go false acts g is_i is_m = quiet (dark acts is_i is_m)
        go true acts (inl h) is_i is_m =
            let at_o : home o ≡ e.site = path_home home e.site (w.value e.site) q o y h.0.0.0 o acc.2 h.0.0.1 in
            let at : home i ≡ e.site = ap home (sym is_i) ∙ at_o in
            absurd (not_declared (w.value e.site) at (ap (λ z. (w.value z).declared i) (sym at) ∙ was_undeclared) (h.2 ∙ ap (newly (w.value e.site)) is_i))
        go true acts (inr h) is_i is_m =
            let ev2 : e.entry.event ≡ Got a c (Probe i m x y) = ev ∙ (λ t. Got a c (Probe (is_i t) (is_m t) x y)) in
            let acts2 : probe_acts (w.value e.site) i m x y ≡ true = subst (λ z. probe_acts (w.value e.site) z m x y ≡ true) is_i (subst (λ z. probe_acts (w.value e.site) o z x y ≡ true) is_m acts) in
            let free : ReachesLocally home e.site (w.value e.site) m i y i × (passes (w.value e.site) m i i ≡ true) → ⊥ =
            subst (λ z. ReachesLocally home e.site (w.value e.site) m z y z × (passes (w.value e.site) m z z ≡ true) → ⊥) is_i
            (subst (λ z. ReachesLocally home e.site (w.value e.site) z o y o × (passes (w.value e.site) z o o ≡ true) → ⊥) is_m h.0) in
            let are = subst (λ z. AreProbes home e.site (w.value e.site) (max (w.value e.site).clock c) z m y e.entry.sent) is_i (subst (λ z. AreProbes home e.site (w.value e.site) (max (w.value e.site).clock c) o z y e.entry.sent) is_m h.1) in
            subst (Known home n i) same_stamp
            (known_lit home w e n old st a c i m x y ev2 (blocked_stamp home w e n old st i was_blocked) refl acts2 free are
            (λ j k. outcome_counts home (ReachesLocally home e.site (w.value e.site) q o y o × (passes (w.value e.site) q o o ≡ true)) (is_request j k) (home k) e.site (w.value e.site) (max (w.value e.site).clock c) o q y e.entry.sent e.entry.declared (λ c i n a b. refl) (inr h))
            was_blocked was_known)

  ask_known : (x : ℕ) (ks : List ℕ) → e.entry.event ≡ Ask x ks → Accepts home e.site (w.value e.site) (Ask x ks) → Sends home e.site (w.value e.site) (Ask x ks) e.entry.sent e.entry.declared → Known home n i ((n.value (home i)).stamp i)
  ask_known x ks ev acc out = elim (cases_eq i x) [
    | inl same ↦ own same
    | inr other ↦
        let fields = unchanged other in
        let b : is_blocked (w.value (home i)) i ≡ true = ap is_nonempty (sym fields.0) ∙ blocked in
        let known = old.known i b (sym fields.2 ∙ undeclared) in
        subst (Known home n i) (sym fields.1) (known_ask_other home w e n old st x ks ev i ((w.value (home i)).stamp i) (blocked_stamp home w e n old st i b) refl other known)
  ]
    where
      unchanged : i ≢ x → ((n.value (home i)).waits i ≡ (w.value (home i)).waits i) × ((n.value (home i)).stamp i ≡ (w.value (home i)).stamp i) × ((n.value (home i)).declared i ≡ (w.value (home i)).declared i)
      unchanged other = elim (cases_eq (home i) e.site) [
        | inr far ↦ let same = st.elsewhere (home i) far in (ap (λ (v : State). v.waits i) same, ap (λ (v : State). v.stamp i) same, ap (λ (v : State). v.declared i) same)
        | inl at ↦
            let state = at_site at in
            let was : (w.value e.site).declared i ≡ false = sym (ap (λ z. (changed home e.site (w.value e.site) z).declared i) ev ∙ ap (λ z. if z then false else (w.value e.site).declared i) (ne_eqb i x other)) ∙ changed_undeclared at in (
              ap (λ (v : State). v.waits i) state ∙ ap (λ z. (changed home e.site (w.value e.site) z).waits i) ev ∙ ap (λ z. if z then with_each ((w.value e.site).waits x) ks else (w.value e.site).waits i) (ne_eqb i x other) ∙ ap (λ z. (w.value z).waits i) (sym at),
              ap (λ (v : State). v.stamp i) state ∙ ap (λ z. (changed home e.site (w.value e.site) z).stamp i) ev ∙ ap (λ z. if z then (w.value e.site).clock + 1 else (w.value e.site).stamp i) (ne_eqb i x other) ∙ ap (λ z. (w.value z).stamp i) (sym at),
              undeclared ∙ sym was ∙ ap (λ z. (w.value z).declared i) (sym at),
            )
      ]

      own : i ≡ x → Known home n i ((n.value (home i)).stamp i)
      own same = go out.2
        where
          at : home i ≡ e.site
          at = ap home same ∙ acc.0

          ev_i : e.entry.event ≡ Ask i ks
          ev_i = ev ∙ (λ t. Ask (sym same t) ks)

          go : DeclaresOrProbes home (DependsOnItself home e.site (changed home e.site (w.value e.site) (Ask x ks)) ((w.value e.site).clock + 1) x) e.site (changed home e.site (w.value e.site) (Ask x ks)) ((w.value e.site).clock + 1) x ((w.value e.site).clock + 1) x out.0 e.entry.declared → Known home n i ((n.value (home i)).stamp i)
          go (inl h) = absurd (not_declared (changed home e.site (w.value e.site) (Ask x ks)) at (ap (λ z. if z then false else (w.value e.site).declared i) (eq-eqb i x same)) (h.2 ∙ ap (newly (changed home e.site (w.value e.site) (Ask x ks))) (sym same)))
          go (inr h) =
              let stamp = (asked home w e n old.holds st i ks ev_i (subst (λ z. Accepts home e.site (w.value e.site) (Ask z ks)) (sym same) acc)).2 in
              let sent : e.entry.sent ≡ requests home e.site ((w.value e.site).clock + 1) i ks ++ out.0 = out.1 ∙ ap (λ z. requests home e.site ((w.value e.site).clock + 1) z ks ++ out.0) (sym same) in
              let free = subst (λ z. DependsOnItself home e.site (changed home e.site (w.value e.site) (Ask z ks)) ((w.value e.site).clock + 1) z → ⊥) (sym same) h.0 in
              let are = subst (λ z. AreProbes home e.site (changed home e.site (w.value e.site) (Ask z ks)) ((w.value e.site).clock + 1) z ((w.value e.site).clock + 1) z out.0) (sym same) h.1 in
              subst (Known home n i) (sym stamp) (known_own_ask home w e n old st i ks ev_i out.0 sent free are
              (λ j k. outcome_counts home (DependsOnItself home e.site (changed home e.site (w.value e.site) (Ask x ks)) ((w.value e.site).clock + 1) x) (is_request j k) (home k) e.site (changed home e.site (w.value e.site) (Ask x ks)) ((w.value e.site).clock + 1) x ((w.value e.site).clock + 1) x out.0 e.entry.declared (λ c i n a b. refl) (inr h))
              (ap (λ z. is_blocked (n.value z) i) (sym at) ∙ blocked))

  by_event : (ev : Event) → e.entry.event ≡ ev → Accepts home e.site (w.value e.site) ev → Sends home e.site (w.value e.site) ev e.entry.sent e.entry.declared → Known home n i ((n.value (home i)).stamp i)
  by_event (Ask x ks) ev acc out = ask_known x ks ev acc out
  by_event (Reply x y) ev acc out = quiet (ap is_ask ev) (λ a c x y h. absurd (cc (sym ev ∙ h)))
  by_event (Withdraw x ks) ev acc out = quiet (ap is_ask ev) (λ a c x y h. absurd (cc (sym ev ∙ h)))
  by_event (Turn d) ev acc out = quiet (ap is_ask ev) (λ a c x y h. absurd (cc (sym ev ∙ h)))
  by_event (Got a c (Request x y)) ev acc out = quiet (ap is_ask ev) (λ a c x y h. absurd (cc (sym ev ∙ h)))
  by_event (Got a c (Reply_frame x y)) ev acc out = quiet (ap is_ask ev) (λ a c x y h. absurd (cc (sym ev ∙ h)))
  by_event (Got a c (Withdraw_frame x y)) ev acc out = quiet (ap is_ask ev) (λ a c x y h. absurd (cc (sym ev ∙ h)))
  by_event (Got a c (Probe o q x y)) ev acc out = probe_known (ap is_ask ev) a c o q x y ev acc out

pub known_kept : StepKeepsKnown
known_kept home w e n old st = record {
  holds = all_kept home w e n old.holds st;
  marks = marks_kept home w e n old.holds old.marks st;
  known = λ i blocked undeclared. by_event home w e n old st i blocked undeclared e.entry.event refl st.accepted st.sends;
}

known_first : (home : ℕ → ℕ) → AllKnown home (world_of home [])
known_first home = record {
  holds = holds_first home;
  marks = record { under = λ k i. omega arith; reached = λ k i. omega arith; asked = λ x y h. absurd (true≢false (sym h)); back = λ j k h. absurd (true≢false (sym h)) };
  known = λ i h u. absurd (true≢false (sym h));
}

known_on : (home : ℕ → ℕ) (before rest : List WorldEvent) → IsRun home (before ++ rest) → AllKnown home (world_of home before) → AllKnown home (world_of home (before ++ rest))
known_on home before [] run h = subst (λ z. AllKnown home (world_of home z)) (sym (append-nil before)) h
known_on home before (e ∷ rest) run h =
    let same = append_assoc before (e ∷ []) rest in
    subst (λ z. AllKnown home (world_of home z)) same (known_on home (before ++ e ∷ []) rest (subst (IsRun home) (sym same) run)
    (known_kept home (world_of home before) e (world_of home (before ++ e ∷ [])) h (one_step home before e rest run)))

pub known_of_run : (home : ℕ → ℕ) (events : List WorldEvent) → IsRun home events → AllKnown home (world_of home events)
known_of_run home events run = known_on home [] events run (known_first home)

drop_whole : (xs : List Message) → drop (length xs) xs ≡ []
drop_whole [] = refl
drop_whole (x ∷ xs) = drop_whole xs

module _ (home : ℕ → ℕ) (events : List WorldEvent) (all : AllKnown home (world_of home events)) (drained : (a b : ℕ) → receipts a b events ≡ sendings a b events) (i : ℕ) where
  abbrev top : ℕ
  top = (state_of home (home i) events).stamp i

  empty : (a b : ℕ) → (world_of home events).queue a b ≡ []
  empty a b = ap (λ l. drop (length l) (sendings a b events)) (drained a b) ∙ drop_whole (sendings a b events)

  no_live : (m j k : ℕ) → LiveProbe home (world_of home events) i m j k → ⊥
  no_live m j k p = none p.1 (sym (empty (home j) (home k)) ∙ p.3)
    where
      none : (ahead : List Message) → [] ≡ ahead ++ record { clock = p.0; frame = Probe i m j k } ∷ p.2 → ⊥
      none [] h = cc h
      none (y ∷ ys) h = cc h

  waits_block : (j k : ℕ) → Waits events j k → is_blocked (state_of home (home j) events) j ≡ true
  waits_block j k h = in_some ((state_of home (home j) events).waits j) k (all.marks.back j k h)

  abbrev Edge : ℕ → ℕ → Type 0
  Edge x y = Waits events x y × (is_before top i ((state_of home (home x) events).since x y) x ≡ false)

  edge_counts : (x y : ℕ) → Edge x y → counts (state_of home (home x) events) top i x y ≡ true
  edge_counts x y e = ap (λ z. z && not (is_before top i ((state_of home (home x) events).since x y) x)) (all.marks.back x y e.0) ∙ ap not e.1

  edge_passes : (x y : ℕ) → Edge x y → passes (state_of home (home x) events) top i x ≡ true
  edge_passes x y e = in_passes (state_of home (home x) events) top i x y (all.marks.back x y e.0) (ap not e.1)

  -- round a cycle whose waits are all as old
  walk : Known home (world_of home events) i top → passes (state_of home (home i) events) top i i ≡ true
      → (p : ℕ) (xs : List ℕ) → is_nonempty xs ≡ true → IsLit home (world_of home events) i top p → IsPath Edge p xs i → ⊥
  walk known own p [] some lit path = true≢false (sym some)
  walk known own p (x ∷ xs) some lit path =
      let cnt = edge_counts p x path.0 in
      elim (cases_eq x i) [
        | inl is_i ↦ elim (cases_eq (home p) (home x)) [
          | inl same ↦ known.near p x lit path.0.0 cnt same is_i
          | inr apart ↦ elim (known.far p x lit path.0.0 cnt apart) [
            | inl live ↦ no_live top p x live
            | inr passed ↦ known.own (subst (λ z. (state_of home (home z) events).marks z i ≡ top) is_i (passed.1 (subst (λ z. passes (state_of home (home z) events) top i z ≡ true) (sym is_i) own)))
          ]
        ]
        | inr other ↦ elim (more xs other path.1) [
          | inl end ↦ absurd (other end)
          | inr next ↦
              walk known own x xs next.2 (elim (cases_eq (home p) (home x)) [
                | inl same ↦
                    let at : home p ≡ home lit.0 = path_home home (home lit.0) (state_of home (home lit.0) events) top i lit.0 lit.2.0 p refl lit.2.1 in
                    (lit.0, lit.1, (lit.2.0 ++ (x ∷ []), path_end home (home lit.0) (state_of home (home lit.0) events) top i lit.0 lit.2.0 p x lit.2.1 (ap (λ z. counts (state_of home z events) top i p x) (sym at) ∙ cnt) (sym same ∙ at)))
                | inr apart ↦ elim (known.far p x lit path.0.0 cnt apart) [
                  | inl live ↦ absurd (no_live top p x live)
                  | inr passed ↦ (x, inr (passed.1 (edge_passes x next.0 next.1)), ([], refl))
                ]
              ]) path.1
        ]
      ]
    where
      more : (xs : List ℕ) → x ≢ i → IsPath Edge x xs i → (x ≡ i) ⊎ ((next : ℕ) × Edge x next × (is_nonempty xs ≡ true))
      more [] other h = inl h
      more (y ∷ ys) other h = inr (y, h.0, refl)

pub no_silent_deadlock : NoneMissed
no_silent_deadlock home events run drained i next members path =
    let all = known_of_run home events run in
    elim (cases_Bool ((state_of home (home i) events).declared i)) [
      | inl yes' ↦ yes'
      | inr un ↦
          let blocked = waits_block home events all drained i i next path.0.0 in
          absurd (walk home events all drained i (all.known i blocked un) (edge_passes home events all drained i i next path.0) i (next ∷ members) refl (i, inl refl, ([], refl)) path)
    ]

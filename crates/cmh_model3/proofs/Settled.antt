-- What is settled stays.
use Rattle.std.proofs.Common.{◌≡◌, ◌≢◌, ◌⊎◌, ℕ, ◌+◌, ◌≤◌, ◌<◌, max, Bool, true, false, not, ◌&&◌, ◌||◌, List, [], ◌∷◌, ◌==◌, if◌then◌else◌, refl, sym, ap, ◌∙◌, subst, inl, inr, true≢false, arith}
use Rattle.std.proofs.lemmas.Bool.{cases_Bool, cases_eq, eqb-true, eq-eqb, ne_eqb, and_parts, and_from, or_cases, ltb-true, lt-ltb, cases_lt, false_from_ne_true}
use Rattle.cmh_model3.specs.declared.frame.Frame.TheVariants.{Request, Reply as Reply_frame, Withdraw as Withdraw_frame, Probe}
use Rattle.cmh_model3.specs.declared.event.Event.{Event}
use Rattle.cmh_model3.specs.declared.event.Event.TheVariants.{Ask, Reply, Withdraw, Got, Turn}
use Rattle.cmh_model3.specs.Lists.{set_at, set_pair, without, without_all, in_list}
use Rattle.cmh_model3.specs.Entries.{WorldEvent}
use Rattle.cmh_model3.specs.State.{State, with_waits, waits_for}
use Rattle.cmh_model3.specs.Rules.{Accepts, changed, probe_acts, clock_after}
use Rattle.cmh_model3.specs.Waits.{begins, ends, is_ask}
use Rattle.cmh_model3.specs.Stops.{is_within}
use Rattle.cmh_model3.proofs.World.{World, Step, clock_of}
use Rattle.cmh_model3.proofs.Invariants.{IsSettled, SettledPath, SettledStays, StampsFit, StampsKept}
use Rattle.std.specs.Prelude.{ltb}
use Rattle.cmh_model3.proofs.Clocks.{clock_grows}
use Rattle.cmh_model3.proofs.Askers.{asker_move}

-- who begins a wait is of the site
pub begins_home : (home : ℕ → ℕ) (s : ℕ) (v : State) (ev : Event) (x y : ℕ) → Accepts home s v ev → begins x y ev ≡ true → home x ≡ s
begins_home home s v (Ask i ks) x y acc h = sym (ap home (eqb-true i x (and_parts (i == x) (in_list ks y) h).0)) ∙ acc.0
begins_home home s v (Reply k i) x y acc h = absurd (true≢false (sym h))
begins_home home s v (Withdraw i ks) x y acc h = absurd (true≢false (sym h))
begins_home home s v (Turn d) x y acc h = absurd (true≢false (sym h))
begins_home home s v (Got a c f) x y acc h = absurd (true≢false (sym h))

-- a wait ends at the site of one of its two
pub ends_home : (home : ℕ → ℕ) (s : ℕ) (v : State) (ev : Event) (x y : ℕ) → Accepts home s v ev → ends x y ev ≡ true → (home x ≡ s) ⊎ (home y ≡ s)
ends_home home s v (Ask i ks) x y acc h = absurd (true≢false (sym h))
ends_home home s v (Reply k i) x y acc h = inr (sym (ap home (eqb-true k y (and_parts (k == y) (i == x) h).0)) ∙ acc.0)
ends_home home s v (Withdraw i ks) x y acc h = inl (sym (ap home (eqb-true i x (and_parts (i == x) (in_list ks y) h).0)) ∙ acc.0)
ends_home home s v (Turn d) x y acc h = absurd (true≢false (sym h))
ends_home home s v (Got a c f) x y acc h = absurd (true≢false (sym h))

-- a site whose clock is at m adds nothing to stop m
pub within_low : (m c : ℕ) (ev : Event) → is_within m (clock_after c ev) ev ≡ true → c < m
within_low m c (Ask j ks) h = elim (or_cases (ltb (c + 1) m) ((c + 1) == m) h) [
  | inl l ↦ let lt = ltb-true (c + 1) m l in omega (arith, lt)
  | inr g ↦ let q = eqb-true (c + 1) m g in omega (arith, q)
]
within_low m c (Reply k j) h = low m c h
  where
    low : (m c : ℕ) → (ltb c m || false) ≡ true → c < m
    low m c h = elim (or_cases (ltb c m) false h) [ inl l ↦ ltb-true c m l | inr x ↦ absurd (true≢false (sym x)) ]
within_low m c (Withdraw j ks) h = elim (or_cases (ltb c m) false h) [ inl l ↦ ltb-true c m l | inr x ↦ absurd (true≢false (sym x)) ]
within_low m c (Turn d) h = elim (or_cases (ltb (max c d) m) false h) [
  | inl l ↦ let lt = ltb-true (max c d) m l in omega (arith, lt)
  | inr x ↦ absurd (true≢false (sym x))
]
within_low m c (Got a d f) h = elim (or_cases (ltb (max c d) m) false h) [
  | inl l ↦ let lt = ltb-true (max c d) m l in omega (arith, lt)
  | inr x ↦ absurd (true≢false (sym x))
]

-- the stamps after an event
pub stamp_same : (home : ℕ → ℕ) (s : ℕ) (v : State) (ev : Event) (x : ℕ) → is_ask ev ≡ false → (changed home s v ev).stamp x ≡ v.stamp x
stamp_same home s v (Ask j ks) x h = absurd (true≢false h)
stamp_same home s v (Reply k j) x h = go (home j == s)
  where
    go : (z : Bool) → (if z then with_waits (record v { owed = set_pair v.owed k j false }) j (without (v.waits j) k) else record v { owed = set_pair v.owed k j false }).stamp x ≡ v.stamp x
    go true = refl
    go false = refl
stamp_same home s v (Withdraw j ks) x h = refl
stamp_same home s v (Turn d) x h = refl
stamp_same home s v (Got a c (Request j k)) x h = refl
stamp_same home s v (Got a c (Reply_frame k j)) x h = go (waits_for v j k)
  where
    go : (z : Bool) → (if z then with_waits v j (without (v.waits j) k) else record v { leaving = set_pair v.leaving j k false }).stamp x ≡ v.stamp x
    go true = refl
    go false = refl
stamp_same home s v (Got a c (Withdraw_frame j k)) x h = refl
stamp_same home s v (Got a c (Probe i n j k)) x h = go (probe_acts v i n j k)
  where
    go : (z : Bool) → (if z then record v { marks = set_at v.marks k (set_at (v.marks k) i n) } else v).stamp x ≡ v.stamp x
    go true = refl
    go false = refl

-- stamps rise, and stay behind the clock
pub stamp_move : (home : ℕ → ℕ) (s : ℕ) (v : State) (ev : Event) (x : ℕ) → v.stamp x ≤ v.clock → (v.stamp x ≤ (changed home s v ev).stamp x) × ((changed home s v ev).stamp x ≤ clock_after v.clock ev)
stamp_move home s v ev x l = elim (cases_Bool (is_ask ev)) [
  | inl y ↦ asked ev y
  | inr n ↦ let same = stamp_same home s v ev x n in let up = clock_grows v.clock ev in (omega (arith, same), omega (arith, same, up, l))
]
  where
    asked : (ev : Event) → is_ask ev ≡ true → (v.stamp x ≤ (changed home s v ev).stamp x) × ((changed home s v ev).stamp x ≤ clock_after v.clock ev)
    asked (Ask j ks) h = elim (cases_Bool (x == j)) [
      | inl e ↦ let new = ap (λ z. if z then v.clock + 1 else v.stamp x) e in (omega (arith, new, l), omega (arith, new))
      | inr e ↦ let new = ap (λ z. if z then v.clock + 1 else v.stamp x) e in (omega (arith, new), omega (arith, new, l))
    ]
    asked (Reply k j) h = absurd (true≢false (sym h))
    asked (Withdraw j ks) h = absurd (true≢false (sym h))
    asked (Turn d) h = absurd (true≢false (sym h))
    asked (Got a c f) h = absurd (true≢false (sym h))

-- of fewer waits each has the stamp that it had, and the others have none
with_since : (u : State) (p : ℕ) (ks : List ℕ) (x y : ℕ) → (waits_for (with_waits u p ks) x y ≡ true → (with_waits u p ks).since x y ≡ u.since x y) × ((with_waits u p ks).since x y ≤ u.since x y)
with_since u p ks x y = elim (cases_eq x p) [
  | inr far ↦ let same : (with_waits u p ks).since x y ≡ u.since x y = ap (λ z. (if z then (λ k. if in_list ks k then u.since p k else 0) else u.since x) y) (ne_eqb x p far) in ((λ h. same), omega (arith, same))
  | inl e ↦
      let own : (with_waits u p ks).since x y ≡ (if in_list ks y then u.since p y else 0) = ap (λ z. (if z then (λ k. if in_list ks k then u.since p k else 0) else u.since x) y) (eq-eqb x p e) in
      let was : u.since x y ≡ u.since p y = ap (λ q. u.since q y) e in
      elim (cases_Bool (in_list ks y)) [
        | inl y_in ↦ let kept = ap (λ z. if z then u.since p y else 0) y_in in ((λ h. own ∙ kept ∙ sym was), omega (arith, own, kept, was))
        | inr out ↦
            let none = ap (λ z. if z then u.since p y else 0) out in (
              (λ h. absurd (true≢false (sym h ∙ ap (λ z. in_list (if z then ks else u.waits x) y) (eq-eqb x p e) ∙ out))),
              omega (arith, own, none),
            )
      ]
]

-- a wait that is kept has the stamp that it had but where it begins; and it is at most its asker's
pub since_after : (home : ℕ → ℕ) (s : ℕ) (v : State) (ev : Event) (x y : ℕ) → v.since x y ≤ v.stamp x → v.stamp x ≤ v.clock
    → (begins x y ev ≡ false → waits_for (changed home s v ev) x y ≡ true → (changed home s v ev).since x y ≡ v.since x y) × ((changed home s v ev).since x y ≤ (changed home s v ev).stamp x)
since_after home s v (Ask j ks) x y l c = elim (cases_Bool ((x == j) && in_list ks y)) [
  | inl both ↦
      let parts = and_parts (x == j) (in_list ks y) both in
      let s1 = ap (λ z. if z then v.clock + 1 else v.since x y) both in
      let t1 = ap (λ z. if z then v.clock + 1 else v.stamp x) parts.0 in
      ((λ b g. absurd (true≢false (sym (and_from (j == x) (in_list ks y) (eq-eqb j x (sym (eqb-true x j parts.0))) parts.1) ∙ b))), omega (arith, s1, t1))
  | inr other ↦
      let s1 = ap (λ z. if z then v.clock + 1 else v.since x y) other in (
        (λ b g. s1),
        elim (cases_Bool (x == j)) [
          | inl e ↦ let t1 = ap (λ z. if z then v.clock + 1 else v.stamp x) e in omega (arith, s1, t1, l, c)
          | inr e ↦ let t1 = ap (λ z. if z then v.clock + 1 else v.stamp x) e in omega (arith, s1, t1, l)
        ],
      )
]
since_after home s v (Reply k j) x y l c = go (home j == s)
  where
    answered : State
    answered = record v { owed = set_pair v.owed k j false }

    go : (z : Bool) → (begins x y (Reply k j) ≡ false → waits_for (if z then with_waits answered j (without (v.waits j) k) else answered) x y ≡ true
        → (if z then with_waits answered j (without (v.waits j) k) else answered).since x y ≡ v.since x y)
        × ((if z then with_waits answered j (without (v.waits j) k) else answered).since x y ≤ (if z then with_waits answered j (without (v.waits j) k) else answered).stamp x)
    go true = let r = with_since answered j (without (v.waits j) k) x y in let low = r.1 in ((λ b g. r.0 g), omega (arith, low, l))
    go false = ((λ b g. refl), l)
since_after home s v (Withdraw j ks) x y l c =
    let left : State = record v {
      leaving = (λ i k. (((i == j) && not (home k == s)) && in_list ks k) || v.leaving i k);
      owed = (λ k i. not (((i == j) && (home k == s)) && in_list ks k) && v.owed k i);
    } in
    let r = with_since left j (without_all (v.waits j) ks) x y in
    let low = r.1 in
    ((λ b g. r.0 g), omega (arith, low, l))
since_after home s v (Turn d) x y l c = ((λ b g. refl), l)
since_after home s v (Got a d (Request j k)) x y l c = ((λ b g. refl), l)
since_after home s v (Got a d (Reply_frame k j)) x y l c = go (waits_for v j k)
  where
    given_up : State
    given_up = record v { leaving = set_pair v.leaving j k false }

    go : (z : Bool) → (begins x y (Got a d (Reply_frame k j)) ≡ false → waits_for (if z then with_waits v j (without (v.waits j) k) else given_up) x y ≡ true
        → (if z then with_waits v j (without (v.waits j) k) else given_up).since x y ≡ v.since x y)
        × ((if z then with_waits v j (without (v.waits j) k) else given_up).since x y ≤ (if z then with_waits v j (without (v.waits j) k) else given_up).stamp x)
    go true = let r = with_since v j (without (v.waits j) k) x y in let low = r.1 in ((λ b g. r.0 g), omega (arith, low, l))
    go false = ((λ b g. refl), l)
since_after home s v (Got a d (Withdraw_frame j k)) x y l c = ((λ b g. refl), l)
since_after home s v (Got a d (Probe i n j k)) x y l c =
    let t1 = stamp_same home s v (Got a d (Probe i n j k)) x refl in
    let s1 = go (probe_acts v i n j k) in
    ((λ b g. s1), omega (arith, s1, t1, l))
  where
    go : (z : Bool) → (if z then record v { marks = set_at v.marks k (set_at (v.marks k) i n) } else v).since x y ≡ v.since x y
    go true = refl
    go false = refl

-- an ask is within each stop from its stamp on
begins_within : (home : ℕ → ℕ) (s : ℕ) (v : State) (ev : Event) (x y m : ℕ) → begins x y ev ≡ true → (changed home s v ev).since x y ≤ m → is_within m (clock_after v.clock ev) ev ≡ true
begins_within home s v (Ask i ks) x y m h l =
    let both = and_parts (i == x) (in_list ks y) h in
    let e = eqb-true i x both.0 in
    let new : (if (x == i) && in_list ks y then v.clock + 1 else v.since x y) ≡ v.clock + 1 = ap (λ z. if z then v.clock + 1 else v.since x y) (and_from (x == i) (in_list ks y) (eq-eqb x i (sym e)) both.1) in
    elim (cases_lt (v.clock + 1) m) [
      | inl lt ↦ ap (λ z. z || ((v.clock + 1) == m)) (lt-ltb (v.clock + 1) m lt)
      | inr ge ↦ let eq : v.clock + 1 ≡ m = omega (arith, new, l, ge) in ap (λ z. ltb (v.clock + 1) m || z) (eq-eqb (v.clock + 1) m eq) ∙ or_yes (ltb (v.clock + 1) m)
    ]
  where
    or_yes : (z : Bool) → (z || true) ≡ true
    or_yes true = refl
    or_yes false = refl
begins_within home s v (Reply k i) x y m h l = absurd (true≢false (sym h))
begins_within home s v (Withdraw i ks) x y m h l = absurd (true≢false (sym h))
begins_within home s v (Turn d) x y m h l = absurd (true≢false (sym h))
begins_within home s v (Got a c f) x y m h l = absurd (true≢false (sym h))

module _ (home : ℕ → ℕ) (w : World) (e : WorldEvent) (n : World) (st : Step home w e n) where
  pub clock_up : (a : ℕ) → (w.value a).clock ≤ (n.value a).clock
  clock_up a = elim (cases_eq a e.site) [
    | inl h ↦
        let new : (n.value a).clock ≡ clock_after (w.value a).clock e.entry.event =
        subst (λ z. (n.value z).clock ≡ clock_after (w.value z).clock e.entry.event) (sym h) (ap (λ (v : State). v.clock) st.here) in
        let up = clock_grows (w.value a).clock e.entry.event in
        omega (arith, new, up)
    | inr far ↦ let same = ap (λ (v : State). v.clock) (st.elsewhere a far) in omega (arith, same)
  ]

  -- an event that is not of these sites, or not within the stop, changes no wait of it
  early_fixed : (m x y : ℕ) → m ≤ clock_of home w x → m ≤ clock_of home w y → n.early m x y ≡ w.early m x y
  early_fixed m x y lx ly = st.earlier m x y ∙ elim (cases_Bool (is_within m (clock_after (w.value e.site).clock e.entry.event) e.entry.event)) [
    | inr outside ↦ ap (λ z. if z then begins x y e.entry.event || (not (ends x y e.entry.event) && w.early m x y) else w.early m x y) outside
    | inl inside ↦
        let low = within_low m (w.value e.site).clock e.entry.event inside in
        let not_x : home x ≢ e.site = λ h. let c = ap (λ z. (w.value z).clock) h in absurd (omega (arith, c, low, lx)) in
        let not_y : home y ≢ e.site = λ h. let c = ap (λ z. (w.value z).clock) h in absurd (omega (arith, c, low, ly)) in
        let no_begin : begins x y e.entry.event ≡ false = false_from_ne_true _ (λ h. not_x (begins_home home e.site (w.value e.site) e.entry.event x y st.accepted h)) in
        let no_end : ends x y e.entry.event ≡ false = false_from_ne_true _ (λ h. elim (ends_home home e.site (w.value e.site) e.entry.event x y st.accepted h) [ inl g ↦ not_x g | inr g ↦ not_y g ]) in
        ap (λ z. if z then begins x y e.entry.event || (not (ends x y e.entry.event) && w.early m x y) else w.early m x y) inside
        ∙ ap (λ z. z || (not (ends x y e.entry.event) && w.early m x y)) no_begin
        ∙ ap (λ z. not z && w.early m x y) no_end
  ]

  settled_one : (m x y : ℕ) → IsSettled home w m x y → IsSettled home n m x y
  settled_one m x y h =
      let up_x = clock_up (home x) in let up_y = clock_up (home y) in let lx = h.1 in let ly = h.2 in
      (early_fixed m x y h.1 h.2 ∙ h.0, omega (arith, up_x, lx), omega (arith, up_y, ly))

  pub settled_path : (m i j : ℕ) (members : List ℕ) → SettledPath home w m i members j → SettledPath home n m i members j
  settled_path m i j [] h = h
  settled_path m i j (x ∷ xs) h = (settled_one m i x h.0, settled_path m x j xs h.1)

  module _ (inv : StampsFit home w) where
    pub stamps_move : (x : ℕ) → ((w.value (home x)).stamp x ≤ (n.value (home x)).stamp x) × ((n.value (home x)).stamp x ≤ clock_of home n x)
    stamps_move x = elim (cases_eq (home x) e.site) [
      | inl h ↦
          let old = inv.behind x in
          let s0 = ap (λ z. (w.value z).stamp x) h in
          let c0 = ap (λ z. (w.value z).clock) h in
          let s1 : (n.value (home x)).stamp x ≡ (changed home e.site (w.value e.site) e.entry.event).stamp x = ap (λ z. (n.value z).stamp x) h ∙ ap (λ (v : State). v.stamp x) st.here in
          let c1 : (n.value (home x)).clock ≡ clock_after (w.value e.site).clock e.entry.event = ap (λ z. (n.value z).clock) h ∙ ap (λ (v : State). v.clock) st.here in
          let move = stamp_move home e.site (w.value e.site) e.entry.event x (omega (arith, old, s0, c0)) in
          let m0 = move.0 in let m1 = move.1 in
          (omega (arith, s0, s1, m0), omega (arith, s1, c1, m1))
      | inr far ↦
          let same = ap (λ (v : State). v.stamp x) (st.elsewhere (home x) far) in
          let clock = ap (λ (v : State). v.clock) (st.elsewhere (home x) far) in
          let old = inv.behind x in
          (omega (arith, same), omega (arith, same, clock, old))
    ]

    waits_now : (x y : ℕ) → home x ≡ e.site → waits_for (n.value (home x)) x y ≡ true → waits_for (changed home e.site (w.value e.site) e.entry.event) x y ≡ true
    waits_now x y at g = sym (ap (λ z. waits_for (n.value z) x y) at ∙ ap (λ (v : State). waits_for v x y) st.here) ∙ g

    -- where it is kept and has not just begun, it was kept
    was_kept : (x y : ℕ) → begins x y e.entry.event ≡ false → waits_for (n.value (home x)) x y ≡ true → waits_for (w.value (home x)) x y ≡ true
    was_kept x y nb g = elim (cases_eq (home x) e.site) [
      | inr far ↦ sym (ap (λ (v : State). waits_for v x y) (st.elsewhere (home x) far)) ∙ g
      | inl at ↦ elim (asker_move home e.site (w.value e.site) x y e.entry.event st.accepted at (waits_now x y at g)) [
        | inl b ↦ absurd (true≢false (sym b.0 ∙ nb))
        | inr old ↦ ap (λ z. waits_for (w.value z) x y) at ∙ old.0
      ]
    ]

    since_move : (x y : ℕ) → (begins x y e.entry.event ≡ false → waits_for (n.value (home x)) x y ≡ true → (n.value (home x)).since x y ≡ (w.value (home x)).since x y) × ((n.value (home x)).since x y ≤ (n.value (home x)).stamp x)
    since_move x y =
        let old = inv.low x y in
        elim (cases_eq (home x) e.site) [
          | inr far ↦ let same = st.elsewhere (home x) far in let s0 = ap (λ (v : State). v.since x y) same in let s1 = ap (λ (v : State). v.stamp x) same in ((λ b g. s0), omega (arith, old, s0, s1))
          | inl at ↦
              let s0 = ap (λ z. (w.value z).since x y) at in
              let t0 = ap (λ z. (w.value z).stamp x) at in
              let s1 : (n.value (home x)).since x y ≡ (changed home e.site (w.value e.site) e.entry.event).since x y = ap (λ z. (n.value z).since x y) at ∙ ap (λ (v : State). v.since x y) st.here in
              let t1 : (n.value (home x)).stamp x ≡ (changed home e.site (w.value e.site) e.entry.event).stamp x = ap (λ z. (n.value z).stamp x) at ∙ ap (λ (v : State). v.stamp x) st.here in
              let behind = inv.behind x in
              let c0 = ap (λ z. (w.value z).clock) at in
              let r = since_after home e.site (w.value e.site) e.entry.event x y (omega (arith, old, s0, t0)) (omega (arith, behind, c0, t0)) in
              let low = r.1 in
              ((λ b g. s1 ∙ r.0 b (waits_now x y at g) ∙ sym s0), omega (arith, s1, t1, low))
        ]

    stands_kept : (x y m : ℕ) → n.wait x y ≡ true → waits_for (n.value (home x)) x y ≡ true → (n.value (home x)).since x y ≤ m → n.early m x y ≡ true
    stands_kept x y m h g l = st.earlier m x y ∙ elim (cases_Bool (begins x y e.entry.event)) [
      | inl b ↦
          let at : home x ≡ e.site = begins_home home e.site (w.value e.site) e.entry.event x y st.accepted b in
          let s1 : (n.value (home x)).since x y ≡ (changed home e.site (w.value e.site) e.entry.event).since x y = ap (λ z. (n.value z).since x y) at ∙ ap (λ (v : State). v.since x y) st.here in
          let yes' = begins_within home e.site (w.value e.site) e.entry.event x y m b (omega (arith, s1, l)) in
          ap (λ z. if z then begins x y e.entry.event || (not (ends x y e.entry.event) && w.early m x y) else w.early m x y) yes'
          ∙ ap (λ z. z || (not (ends x y e.entry.event) && w.early m x y)) b
      | inr nb ↦
          let both = sym (st.waits x y ∙ ap (λ z. z || (not (ends x y e.entry.event) && w.wait x y)) nb) ∙ h in
          let parts = and_parts (not (ends x y e.entry.event)) (w.wait x y) both in
          let same = (since_move x y).0 nb g in
          let old = inv.stands x y m parts.1 (was_kept x y nb g) (omega (arith, same, l)) in
          go (is_within m (clock_after (w.value e.site).clock e.entry.event) e.entry.event) (begins x y e.entry.event) (ends x y e.entry.event) (w.early m x y) parts.0 old
    ]
      where
        go : (z b d o : Bool) → not d ≡ true → o ≡ true → (if z then b || (not d && o) else o) ≡ true
        go false b d o h g = g
        go true true d o h g = refl
        go true false d o h g = ap (λ q. q && o) h ∙ g

pub settled_stays : SettledStays
settled_stays home w e n st m i j members h = settled_path home w e n st m i j members h

pub stamps_kept : StampsKept
stamps_kept home w e n inv st = record { behind = λ x. (stamps_move home w e n st inv x).1; low = λ x y. (since_move home w e n st inv x y).1; stands = stands_kept home w e n st inv }

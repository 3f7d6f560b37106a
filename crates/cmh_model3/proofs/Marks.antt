-- Marks, waits and stamps after an event.
use Rattle.std.proofs.Common.{◌≡◌, ◌≢◌, ◌⊎◌, ℕ, ◌+◌, ◌≤◌, Bool, true, false, not, ◌&&◌, ◌||◌, List, [], ◌∷◌, ◌==◌, if◌then◌else◌, refl, sym, ap, ◌∙◌, subst, inl, inr, true≢false, arith}
use Rattle.std.specs.List.{list_any}
use Rattle.std.proofs.lemmas.Bool.{cases_eq, eqb-true, eq-eqb, ne_eqb, and_parts, or_cases}
use Rattle.cmh_model3.specs.declared.frame.Frame.TheVariants.{Request, Reply as Reply_frame, Withdraw as Withdraw_frame, Probe}
use Rattle.cmh_model3.specs.declared.frame.Message.{Message}
use Rattle.cmh_model3.specs.declared.event.Event.{Event}
use Rattle.cmh_model3.specs.declared.event.Event.TheVariants.{Ask, Reply, Withdraw, Got, Turn}
use Rattle.cmh_model3.specs.Lists.{with_each, is_before, in_list, is_nonempty, without, without_all, set_at, set_pair}
use Rattle.cmh_model3.specs.Entries.{WorldEvent}
use Rattle.cmh_model3.specs.State.{passes, State, is_blocked, waits_for, with_waits}
use Rattle.cmh_model3.specs.Rules.{Accepts, changed, probe_acts}
use Rattle.cmh_model3.specs.Journals.{message_from}
use Rattle.cmh_model3.specs.Waits.{is_ask, begins, ends}
use Rattle.cmh_model3.specs.Frames.{bit, count, is_reply}
use Rattle.cmh_model3.proofs.World.{World, Step, clock_of}
use Rattle.cmh_model3.proofs.Invariants.{Holds, MarksFit, StepKeepsMarks}
use Rattle.cmh_model3.proofs.Counts.{in_with, both_or_not, both_yes, or_yes, in_minus, without_other, count_if}
use Rattle.cmh_model3.proofs.Moves.{reply_waits, got_probe}
use Rattle.cmh_model3.proofs.Kept.{link_count, sent_no, got_yes, here}
use Rattle.cmh_model3.proofs.Settled.{begins_home, stamps_move, clock_up}
use Rattle.cmh_model3.proofs.Askers.{asker_move}
use Rattle.cmh_model3.proofs.Held.{arrived}

pub some_in : (ks : List ℕ) → is_nonempty ks ≡ true → (k : ℕ) × (in_list ks k ≡ true)
some_in [] h = absurd (true≢false (sym h))
some_in (k ∷ ks) h = (k, ap (λ z. z || in_list ks k) (eq-eqb k k refl))

pub in_some : (ks : List ℕ) (k : ℕ) → in_list ks k ≡ true → is_nonempty ks ≡ true
in_some [] k h = absurd (true≢false (sym h))
in_some (q ∷ ks) k h = refl

-- who passes on has a wait that counts, and so on
pub passes_in : (v : State) (m i k : ℕ) → passes v m i k ≡ true → (q : ℕ) × (waits_for v k q ≡ true) × (not (is_before m i (v.since k q) k) ≡ true)
passes_in v m i k h = go (v.waits k) h
  where
    go : (ks : List ℕ) → list_any (λ q. not (is_before m i (v.since k q) k)) ks ≡ true → (q : ℕ) × (in_list ks q ≡ true) × (not (is_before m i (v.since k q) k) ≡ true)
    go [] y = absurd (true≢false (sym y))
    go (x ∷ xs) y = elim (or_cases (not (is_before m i (v.since k x) k)) (list_any (λ q. not (is_before m i (v.since k q) k)) xs) y) [
      | inl one ↦ (x, ap (λ z. z || in_list xs x) (eq-eqb x x refl), one)
      | inr more ↦ let r = go xs more in (r.0, ap (λ z. (x == r.0) || z) r.1 ∙ or_yes (x == r.0), r.2)
    ]

pub in_passes : (v : State) (m i k q : ℕ) → waits_for v k q ≡ true → not (is_before m i (v.since k q) k) ≡ true → passes v m i k ≡ true
in_passes v m i k q h g = go (v.waits k) h
  where
    go : (ks : List ℕ) → in_list ks q ≡ true → list_any (λ q. not (is_before m i (v.since k q) k)) ks ≡ true
    go [] y = absurd (true≢false (sym y))
    go (x ∷ xs) y = elim (or_cases (x == q) (in_list xs q) y) [
      | inl e ↦ ap (λ z. z || list_any (λ q. not (is_before m i (v.since k q) k)) xs) (subst (λ z. not (is_before m i (v.since k z) k) ≡ true) (sym (eqb-true x q e)) g)
      | inr more ↦ ap (λ z. not (is_before m i (v.since k x) k) || z) (go xs more) ∙ or_yes (not (is_before m i (v.since k x) k))
    ]

pub begins_ask : (j k : ℕ) (ev : Event) → begins j k ev ≡ true → is_ask ev ≡ true
begins_ask j k (Ask i ks) h = refl
begins_ask j k (Reply x i) h = absurd (true≢false (sym h))
begins_ask j k (Withdraw i ks) h = absurd (true≢false (sym h))
begins_ask j k (Turn d) h = absurd (true≢false (sym h))
begins_ask j k (Got a c f) h = absurd (true≢false (sym h))

module _ (home : ℕ → ℕ) (s : ℕ) (v : State) where
  -- a mark stays, or is wiped out, or is that of a probe that has just come
  abbrev pub MarkMove : Event → ℕ → ℕ → Type 0
  MarkMove ev k i =
      ((changed home s v ev).marks k i ≡ v.marks k i)
      ⊎ (((changed home s v ev).marks k i ≡ 0) × ((is_blocked (changed home s v ev) k ≡ false) ⊎ (is_ask ev ≡ true)))
      ⊎ ((a : ℕ) × (c : ℕ) × (m : ℕ) × (x : ℕ) × (ev ≡ Got a c (Probe i m x k)) × (probe_acts v i m x k ≡ true) × ((changed home s v ev).marks k i ≡ m))

  -- where waits of p become these
  with_marks : (v : State) (p : ℕ) (ks : List ℕ) (k i : ℕ) → ((with_waits v p ks).marks k i ≡ v.marks k i) ⊎ (((with_waits v p ks).marks k i ≡ 0) × (is_blocked (with_waits v p ks) k ≡ false))
  with_marks v p ks k i = go (is_nonempty ks) refl
    where
      go : (z : Bool) → is_nonempty ks ≡ z → ((with_waits v p ks).marks k i ≡ v.marks k i) ⊎ (((with_waits v p ks).marks k i ≡ 0) × (is_blocked (with_waits v p ks) k ≡ false))
      go true h = inl (ap (λ z. (if z then v.marks else set_at v.marks p (λ i. 0)) k i) h)
      go false h = elim (cases_eq k p) [
        | inl e ↦ inr (ap (λ z. (if z then v.marks else set_at v.marks p (λ i. 0)) k i) h ∙ ap (λ z. (if z then (λ (i : ℕ). 0) else v.marks k) i) (eq-eqb k p e), ap (λ z. is_nonempty (if z then ks else v.waits k)) (eq-eqb k p e) ∙ h)
        | inr n ↦ inl (ap (λ z. (if z then v.marks else set_at v.marks p (λ i. 0)) k i) h ∙ ap (λ z. (if z then (λ (i : ℕ). 0) else v.marks k) i) (ne_eqb k p n))
      ]

  pub mark_move : (ev : Event) (k i : ℕ) → MarkMove ev k i
  mark_move (Ask j ks) k i = inl refl
  mark_move (Reply h j) k i = go (home j == s)
    where
      go : (z : Bool) → ((if z then with_waits (record v { owed = set_pair v.owed h j false }) j (without (v.waits j) h) else record v { owed = set_pair v.owed h j false }).marks k i ≡ v.marks k i)
          ⊎ (((if z then with_waits (record v { owed = set_pair v.owed h j false }) j (without (v.waits j) h) else record v { owed = set_pair v.owed h j false }).marks k i ≡ 0)
          × ((is_blocked (if z then with_waits (record v { owed = set_pair v.owed h j false }) j (without (v.waits j) h) else record v { owed = set_pair v.owed h j false }) k ≡ false) ⊎ (false ≡ true)))
          ⊎ ((a : ℕ) × (c : ℕ) × (m : ℕ) × (x : ℕ) × (Reply h j ≡ Got a c (Probe i m x k)) × (probe_acts v i m x k ≡ true) × ((if z then with_waits (record v { owed = set_pair v.owed h j false }) j (without (v.waits j) h) else record v { owed = set_pair v.owed h j false }).marks k i ≡ m))
      go false = inl refl
      go true = elim (with_marks (record v { owed = set_pair v.owed h j false }) j (without (v.waits j) h) k i) [ inl e ↦ inl e | inr b ↦ inr (inl (b.0, inl b.1)) ]
  mark_move (Withdraw j ks) k i =
      let left : State = record v {
        leaving = (λ x y. (((x == j) && not (home y == s)) && in_list ks y) || v.leaving x y);
        owed = (λ x y. not (((y == j) && (home x == s)) && in_list ks x) && v.owed x y);
      } in
      elim (with_marks left j (without_all (v.waits j) ks) k i) [ inl e ↦ inl e | inr b ↦ inr (inl (b.0, inl b.1)) ]
  mark_move (Turn d) k i = inl refl
  mark_move (Got a c (Request x y)) k i = inl refl
  mark_move (Got a c (Reply_frame h j)) k i = go (waits_for v j h)
    where
      go : (z : Bool) → ((if z then with_waits v j (without (v.waits j) h) else record v { leaving = set_pair v.leaving j h false }).marks k i ≡ v.marks k i)
          ⊎ (((if z then with_waits v j (without (v.waits j) h) else record v { leaving = set_pair v.leaving j h false }).marks k i ≡ 0)
          × ((is_blocked (if z then with_waits v j (without (v.waits j) h) else record v { leaving = set_pair v.leaving j h false }) k ≡ false) ⊎ (false ≡ true)))
          ⊎ ((b : ℕ) × (d : ℕ) × (m : ℕ) × (x : ℕ) × (Got a c (Reply_frame h j) ≡ Got b d (Probe i m x k)) × (probe_acts v i m x k ≡ true) × ((if z then with_waits v j (without (v.waits j) h) else record v { leaving = set_pair v.leaving j h false }).marks k i ≡ m))
      go false = inl refl
      go true = elim (with_marks v j (without (v.waits j) h) k i) [ inl e ↦ inl e | inr b ↦ inr (inl (b.0, inl b.1)) ]
  mark_move (Got a c (Withdraw_frame x y)) k i = inl refl
  mark_move (Got a c (Probe o m x y)) k i = go (probe_acts v o m x y) refl
    where
      go : (z : Bool) → probe_acts v o m x y ≡ z → MarkMove (Got a c (Probe o m x y)) k i
      go false acts = inl (ap (λ b. (if b then record v { marks = set_at v.marks y (set_at (v.marks y) o m) } else v).marks k i) acts)
      go true acts = elim (both_or_not k i y o) [
        | inl e ↦
            let new : (changed home s v (Got a c (Probe o m x y))).marks k i ≡ m =
            ap (λ b. (if b then record v { marks = set_at v.marks y (set_at (v.marks y) o m) } else v).marks k i) acts
            ∙ ap (λ b. (if b then (λ q. if q == o then m else v.marks y q) else v.marks k) i) (eq-eqb k y e.0) ∙ ap (λ b. if b then m else v.marks y i) (eq-eqb i o e.1) in
            inr (inr (a, c, m, x, (λ t. Got a c (Probe (sym e.1 t) m x (sym e.0 t))), subst (λ q. probe_acts v q m x k ≡ true) (sym e.1) (subst (λ q. probe_acts v o m x q ≡ true) (sym e.0) acts), new))
        | inr other ↦ inl (ap (λ b. (if b then record v { marks = set_at v.marks y (set_at (v.marks y) o m) } else v).marks k i) acts ∙ same (cases_eq k y) (cases_eq i o) other)
      ]
        where
          same : (k ≡ y) ⊎ (k ≢ y) → (i ≡ o) ⊎ (i ≢ o) → ((k == y) && (i == o)) ≡ false → (if k == y then (λ q. if q == o then m else v.marks y q) else v.marks k) i ≡ v.marks k i
          same (inl e) (inl f) other = absurd (true≢false (sym (both_yes k i y o e f) ∙ other))
          same (inl e) (inr f) other = ap (λ b. (if b then (λ q. if q == o then m else v.marks y q) else v.marks k) i) (eq-eqb k y e) ∙ ap (λ b. if b then m else v.marks y i) (ne_eqb i o f) ∙ ap (λ q. v.marks q i) (sym e)
          same (inr e) f other = ap (λ b. (if b then (λ q. if q == o then m else v.marks y q) else v.marks k) i) (ne_eqb k y e)

  -- a wait that begins is kept
  pub begun_waits : (j k : ℕ) (ev : Event) → begins j k ev ≡ true → waits_for (changed home s v ev) j k ≡ true
  begun_waits j k (Ask i ks) h =
      let both = and_parts (i == j) (in_list ks k) h in
      ap (λ z. in_list (if z then with_each (v.waits i) ks else v.waits j) k) (eq-eqb j i (sym (eqb-true i j both.0))) ∙ in_with (v.waits i) ks k ∙ ap (λ z. in_list (v.waits i) k || z) both.1 ∙ or_yes (in_list (v.waits i) k)
  begun_waits j k (Reply x i) h = absurd (true≢false (sym h))
  begun_waits j k (Withdraw i ks) h = absurd (true≢false (sym h))
  begun_waits j k (Turn d) h = absurd (true≢false (sym h))
  begun_waits j k (Got a c f) h = absurd (true≢false (sym h))

  pub begun_stamp : (j k : ℕ) (ev : Event) → begins j k ev ≡ true → 1 ≤ (changed home s v ev).stamp j
  begun_stamp j k (Ask i ks) h =
      let e = ap (λ z. if z then v.clock + 1 else v.stamp j) (eq-eqb j i (sym (eqb-true i j (and_parts (i == j) (in_list ks k) h).0))) in omega (arith, e)
  begun_stamp j k (Reply x i) h = absurd (true≢false (sym h))
  begun_stamp j k (Withdraw i ks) h = absurd (true≢false (sym h))
  begun_stamp j k (Turn d) h = absurd (true≢false (sym h))
  begun_stamp j k (Got a c f) h = absurd (true≢false (sym h))

  -- a wait that doesn't end, and of which no reply has just come, is kept
  pub still_waits : (j k : ℕ) (ev : Event) → Accepts home s v ev → ends j k ev ≡ false → count (is_reply k j) (message_from (home k) ev) ≡ 0 → waits_for v j k ≡ true → waits_for (changed home s v ev) j k ≡ true
  still_waits j k (Ask i ks) acc h none w = elim (cases_eq j i) [
    | inl e ↦ ap (λ z. in_list (if z then with_each (v.waits i) ks else v.waits j) k) (eq-eqb j i e) ∙ in_with (v.waits i) ks k ∙ ap (λ q. in_list (v.waits q) k || in_list ks k) (sym e) ∙ ap (λ z. z || in_list ks k) w
    | inr n ↦ ap (λ z. in_list (if z then with_each (v.waits i) ks else v.waits j) k) (ne_eqb j i n) ∙ w
  ]
  still_waits j k (Reply x i) acc h none w = reply_waits home s v x i j k ∙ go (home i == s) ∙ w
    where
      go : (z : Bool) → (if z && (j == i) then in_list (without (v.waits i) x) k else waits_for v j k) ≡ waits_for v j k
      go false = refl
      go true = elim (cases_eq j i) [
        | inl e ↦
            let n : x ≢ k = λ g. true≢false (sym (both_yes x i k j g (sym e)) ∙ h) in
            ap (λ z. if z then in_list (without (v.waits i) x) k else waits_for v j k) (eq-eqb j i e) ∙ without_other (v.waits i) x k n ∙ ap (λ q. in_list (v.waits q) k) (sym e)
        | inr n ↦ ap (λ z. if z then in_list (without (v.waits i) x) k else waits_for v j k) (ne_eqb j i n)
      ]
  still_waits j k (Withdraw i ks) acc h none w = elim (cases_eq j i) [
    | inl e ↦
        let no : in_list ks k ≡ false = sym (ap (λ z. z && in_list ks k) (eq-eqb i j (sym e))) ∙ h in
        ap (λ z. in_list (if z then without_all (v.waits i) ks else v.waits j) k) (eq-eqb j i e) ∙ in_minus (v.waits i) ks k ∙ ap (λ q. in_list (v.waits q) k && not (in_list ks k)) (sym e) ∙ ap (λ z. z && not (in_list ks k)) w ∙ ap not no
    | inr n ↦ ap (λ z. in_list (if z then without_all (v.waits i) ks else v.waits j) k) (ne_eqb j i n) ∙ w
  ]
  still_waits j k (Turn d) acc h none w = w
  still_waits j k (Got a c (Request x y)) acc h none w = w
  still_waits j k (Got a c (Withdraw_frame x y)) acc h none w = w
  still_waits j k (Got a c (Probe i m x y)) acc h none w = ap (λ r. in_list (r j) k) (got_probe home s v a c i m x y).1 ∙ w
  still_waits j k (Got a c (Reply_frame x i)) acc h none w = elim (both_or_not x i k j) [
    | inl e ↦
        let c1 = count_if (is_reply k j) (a == home k) (record { clock = c; frame = Reply_frame x i }) in
        let hit : bit ((a == home k) && ((x == k) && (i == j))) ≡ 1 = ap (λ z. bit (z && ((x == k) && (i == j)))) (eq-eqb a (home k) (sym acc.1 ∙ ap home e.0)) ∙ ap bit (both_yes x i k j e.0 e.1) in
        absurd (omega (arith, c1, hit, none))
    | inr o ↦ go (waits_for v i x) o
  ]
    where
      go : (z : Bool) → ((x == k) && (i == j)) ≡ false → waits_for (if z then with_waits v i (without (v.waits i) x) else record v { leaving = set_pair v.leaving i x false }) j k ≡ true
      go false o = w
      go true o = elim (cases_eq j i) [
        | inl e ↦
            let n : x ≢ k = λ g. true≢false (sym (both_yes x i k j g (sym e)) ∙ o) in
            ap (λ z. in_list (if z then without (v.waits i) x else v.waits j) k) (eq-eqb j i e) ∙ without_other (v.waits i) x k n ∙ ap (λ q. in_list (v.waits q) k) (sym e) ∙ w
        | inr n ↦ ap (λ z. in_list (if z then without (v.waits i) x else v.waits j) k) (ne_eqb j i n) ∙ w
      ]

  -- a reply from the own site isn't got
  pub none_from_self : (p : Message → Bool) (b : ℕ) (ev : Event) → Accepts home s v ev → b ≡ s → count p (message_from b ev) ≡ 0
  none_from_self p b (Ask i ks) acc h = refl
  none_from_self p b (Reply x i) acc h = refl
  none_from_self p b (Withdraw i ks) acc h = refl
  none_from_self p b (Turn d) acc h = refl
  none_from_self p b (Got a c (Request x y)) acc h = count_if p (a == b) _ ∙ ap (λ z. bit (z && p (record { clock = c; frame = Request x y }))) (ne_eqb a b (λ g. acc.0 (g ∙ h)))
  none_from_self p b (Got a c (Reply_frame x y)) acc h = count_if p (a == b) _ ∙ ap (λ z. bit (z && p (record { clock = c; frame = Reply_frame x y }))) (ne_eqb a b (λ g. acc.0 (g ∙ h)))
  none_from_self p b (Got a c (Withdraw_frame x y)) acc h = count_if p (a == b) _ ∙ ap (λ z. bit (z && p (record { clock = c; frame = Withdraw_frame x y }))) (ne_eqb a b (λ g. acc.0 (g ∙ h)))
  none_from_self p b (Got a c (Probe i m x y)) acc h = count_if p (a == b) _ ∙ ap (λ z. bit (z && p (record { clock = c; frame = Probe i m x y }))) (ne_eqb a b (λ g. acc.0 (g ∙ h)))

module _ (home : ℕ → ℕ) (w : World) (e : WorldEvent) (n : World) (old : Holds home w) (fit : MarksFit home w) (st : Step home w e n) where
  mark_bounds : (k i : ℕ) → ((n.value (home k)).marks k i ≤ (n.value (home i)).stamp i) × ((n.value (home k)).marks k i ≤ clock_of home n k)
  mark_bounds k i =
      let up_i = (stamps_move home w e n st old.stamps i).0 in
      let up_k = clock_up home w e n st (home k) in
      let b1 = fit.under k i in
      let b2 = fit.reached k i in
      elim (cases_eq e.site (home k)) [
        | inr far ↦ let same = ap (λ (v : State). v.marks k i) (st.elsewhere (home k) (λ g. far (sym g))) in (omega (arith, same, b1, up_i), omega (arith, same, b2, up_k))
        | inl h ↦
            let was = ap (λ z. (w.value z).marks k i) h in
            let now : (n.value (home k)).marks k i ≡ (changed home e.site (w.value e.site) e.entry.event).marks k i = ap (λ (v : State). v.marks k i) (here home w e n old.single st (home k) h) in
            elim (mark_move home e.site (w.value e.site) e.entry.event k i) [
              | inl same ↦ (omega (arith, was, now, same, b1, up_i), omega (arith, was, now, same, b2, up_k))
              | inr more ↦ elim more [
                | inl wiped ↦ let z = wiped.0 in (omega (arith, now, z), omega (arith, now, z))
                | inr new ↦
                    let acc = subst (Accepts home e.site (w.value e.site)) new.4 st.accepted in
                    let r = arrived home w e n old st new.0 new.1 i new.2 new.3 k new.4 acc new.5 in
                    let m = new.6 in
                    let low_i = r.2 in let low = r.1 in
                    let clock = ap (λ z. (n.value z).clock) h in
                    (omega (arith, now, m, low_i), omega (arith, now, m, low, clock))
              ]
            ]
      ]

  back_kept : (j k : ℕ) → n.wait j k ≡ true → waits_for (n.value (home j)) j k ≡ true
  back_kept j k y = elim (or_cases (begins j k e.entry.event) (not (ends j k e.entry.event) && w.wait j k) (sym (st.waits j k) ∙ y)) [
    | inl b ↦
        let at = begins_home home e.site (w.value e.site) e.entry.event j k st.accepted b in
        ap (λ v. waits_for v j k) (here home w e n old.single st (home j) (sym at)) ∙ begun_waits home e.site (w.value e.site) j k e.entry.event b
    | inr both ↦
        let parts = and_parts (not (ends j k e.entry.event)) (w.wait j k) both in
        let was = fit.back j k parts.1 in
        elim (cases_eq e.site (home j)) [
          | inr far ↦ ap (λ v. waits_for v j k) (st.elsewhere (home j) (λ g. far (sym g))) ∙ was
          | inl h ↦
              ap (λ v. waits_for v j k) (here home w e n old.single st (home j) h)
              ∙ still_waits home e.site (w.value e.site) j k e.entry.event st.accepted (stays (ends j k e.entry.event) parts.0) (none h parts.1 was) (ap (λ z. waits_for (w.value z) j k) h ∙ was)
        ]
  ]
    where
      stays : (z : Bool) → not z ≡ true → z ≡ false
      stays true g = absurd (true≢false (sym g))
      stays false g = refl

      none : e.site ≡ home j → w.wait j k ≡ true → waits_for (w.value (home j)) j k ≡ true → count (is_reply k j) (message_from (home k) e.entry.event) ≡ 0
      none h wait was = elim (cases_eq (home j) (home k)) [
        | inl same ↦ none_from_self home e.site (w.value e.site) (is_reply k j) (home k) e.entry.event st.accepted (sym same ∙ sym h)
        | inr apart ↦
            let one = old.agrees.far j k apart was in
            let b = ap bit wait in
            let back = link_count home w e n old.single st (is_reply k j) (home k) (home j) in
            let s2 = sent_no home w e n old.single st (is_reply k j) (home k) (home j) (λ g. apart (sym h ∙ g)) in
            let g2 = got_yes home w e n old.single st (is_reply k j) (home k) (home j) h in
            omega (arith, one, b, back, s2, g2)
      ]

  asked_kept : (x y : ℕ) → waits_for (n.value (home x)) x y ≡ true → 1 ≤ (n.value (home x)).stamp x
  asked_kept x y h = elim (cases_eq e.site (home x)) [
    | inr far ↦
        let same = st.elsewhere (home x) (λ g. far (sym g)) in
        let was = fit.asked x y (sym (ap (λ v. waits_for v x y) same) ∙ h) in
        let stamp = ap (λ (v : State). v.stamp x) same in
        omega (arith, was, stamp)
    | inl at ↦
        let state = here home w e n old.single st (home x) at in
        let now : (n.value (home x)).stamp x ≡ (changed home e.site (w.value e.site) e.entry.event).stamp x = ap (λ (v : State). v.stamp x) state in
        elim (asker_move home e.site (w.value e.site) x y e.entry.event st.accepted (sym at) (sym (ap (λ v. waits_for v x y) state) ∙ h)) [
          | inl b ↦ let up = begun_stamp home e.site (w.value e.site) x y e.entry.event b.0 in omega (arith, now, up)
          | inr o ↦
              let was = fit.asked x y (sym (ap (λ z. waits_for (w.value z) x y) at) ∙ o.0) in
              let up = (stamps_move home w e n st old.stamps x).0 in
              omega (arith, was, up)
        ]
  ]

pub marks_kept : StepKeepsMarks
marks_kept home w e n old fit st = record {
  under = λ k i. (mark_bounds home w e n old fit st k i).0;
  reached = λ k i. (mark_bounds home w e n old fit st k i).1;
  asked = asked_kept home w e n old fit st;
  back = back_kept home w e n old fit st;
}

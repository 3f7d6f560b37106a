-- Deliveries come to an end.
use Rattle.std.proofs.Common.{◌≡◌, ℕ, ◌+◌, ◌≤◌, ◌<◌, max, Bool, true, false, ◌&&◌, List, [], ◌∷◌, ◌++◌, ◌==◌, if◌then◌else◌, length, zero, suc, None, MatchBool, refl, sym, ap, ◌∙◌, subst, inl, inr, true≢false, append-nil, append_assoc, arith}
use Rattle.std.proofs.lemmas.Bool.{cases_eq, eq-eqb, and_parts, ltb-true, lt-ltb, false_from_ne_true}
use Rattle.std.specs.List.{AllByRecursion}
use Rattle.cmh_model3.specs.declared.frame.Frame.{Frame}
use Rattle.cmh_model3.specs.declared.frame.Frame.TheVariants.{Request, Reply as Reply_frame, Withdraw as Withdraw_frame, Probe}
use Rattle.cmh_model3.specs.declared.frame.Message.{Message}
use Rattle.cmh_model3.specs.declared.event.Event.{Event}
use Rattle.cmh_model3.specs.declared.event.Event.TheVariants.{Ask, Reply, Withdraw, Got, Turn}
use Rattle.cmh_model3.specs.Lists.{in_list}
use Rattle.cmh_model3.specs.Entries.{WorldEvent}
use Rattle.cmh_model3.specs.State.{State, is_blocked, waits_for, passes}
use Rattle.cmh_model3.specs.Paths.{ReachesLocally}
use Rattle.cmh_model3.specs.Rules.{changed, probe_acts, Accepts, Sends, AreProbes, DeclaresOrProbes, withdraws}
use Rattle.cmh_model3.specs.Journals.{message_from}
use Rattle.cmh_model3.specs.Runs.{state_of, under_way, receipts, sendings, IsRun}
use Rattle.cmh_model3.specs.Waits.{is_ask}
use Rattle.cmh_model3.specs.Victims.{is_delivery}
use Rattle.cmh_model3.specs.Rest.{Flying, on_link, AreUnderWay, weight, total, probe_weight, probe_got, probes_got, ProbesAreBounded, asks_of, each_once, blocked, waits_from, waits_beside, AreDeliveries, RestIsBounded, RestComes, ask_of}
use Rattle.cmh_model3.proofs.World.{World, Step}
use Rattle.cmh_model3.proofs.Pairs.{In}
use Rattle.std.specs.Prelude.{ltb}
use Rattle.cmh_model3.proofs.Marks.{mark_move, some_in, in_some, begins_ask, passes_in}
use Rattle.cmh_model3.proofs.Askers.{asker_move}
use Rattle.cmh_model3.proofs.Lights.{path_home}
use Rattle.cmh_model3.proofs.Runs.{world_of, one_step}
use Rattle.cmh_runs.proofs.Beginnings.{whole}
use Rattle.cmh_model3.proofs.Senders.{in_once, and_both, askers_list, runs_go_on}
use Rattle.cmh_model3.proofs.Piles.{parts, parts_le, parts_less, parts_most, Of, at_most, in_blocked, in_beside}
use Rattle.cmh_model3.proofs.Flights.{sent_by, total-append, own_flat, Numbered, AllNumbered, all_numbered, numbered_append, Lists, got_flat, flights}
use Rattle.cmh_model3.proofs.Sent.{IsProbe, each_probe}

-- k is blocked, and has no mark as new
abbrev open_at : (ℕ → ℕ) → World → ℕ → ℕ → ℕ → Bool
open_at home w k i n = is_blocked (w.value (home k)) k && ltb ((w.value (home k)).marks k i) n

got_asks : (ev : Event) → is_delivery ev ≡ true → is_ask ev ≡ false
got_asks (Ask j ks) h = absurd (true≢false (sym h))
got_asks (Reply k j) h = refl
got_asks (Withdraw j ks) h = refl
got_asks (Got a c f) h = refl
got_asks (Turn c) h = refl

module _ (home : ℕ → ℕ) (w : World) (e : WorldEvent) (n : World) (st : Step home w e n) (calm : is_ask e.entry.event ≡ false) where
  waits_was : (x y : ℕ) → waits_for (n.value (home x)) x y ≡ true → waits_for (w.value (home x)) x y ≡ true
  waits_was x y h = elim (cases_eq (home x) e.site) [
    | inr far ↦ sym (ap (λ v. waits_for v x y) (st.elsewhere (home x) far)) ∙ h
    | inl at ↦
        let now : waits_for (changed home e.site (w.value e.site) e.entry.event) x y ≡ true = sym (ap (λ v. waits_for v x y) st.here) ∙ sym (ap (λ z. waits_for (n.value z) x y) at) ∙ h in
        elim (asker_move home e.site (w.value e.site) x y e.entry.event st.accepted at now) [
          | inl b ↦ absurd (true≢false (sym (begins_ask x y e.entry.event b.0) ∙ calm))
          | inr o ↦ ap (λ z. waits_for (w.value z) x y) at ∙ o.0
        ]
  ]

  blocked_before : (x : ℕ) → is_blocked (n.value (home x)) x ≡ true → is_blocked (w.value (home x)) x ≡ true
  blocked_before x h = let r = some_in ((n.value (home x)).waits x) h in in_some ((w.value (home x)).waits x) r.0 (waits_was x r.0 r.1)

  open_was : (k i m : ℕ) → open_at home n k i m ≡ true → open_at home w k i m ≡ true
  open_was k i m h =
      let both = and_parts (is_blocked (n.value (home k)) k) (ltb ((n.value (home k)).marks k i) m) h in
      let low = ltb-true ((n.value (home k)).marks k i) m both.1 in
      and_both (is_blocked (w.value (home k)) k) (ltb ((w.value (home k)).marks k i) m) (blocked_before k both.0) (lt-ltb ((w.value (home k)).marks k i) m (lower low both.0))
    where
      lower : (n.value (home k)).marks k i < m → is_blocked (n.value (home k)) k ≡ true → (w.value (home k)).marks k i < m
      lower low block = elim (cases_eq (home k) e.site) [
        | inr far ↦ let same = ap (λ (v : State). v.marks k i) (st.elsewhere (home k) far) in omega (arith, same, low)
        | inl at ↦
            let was = ap (λ z. (w.value z).marks k i) at in
            let now : (n.value (home k)).marks k i ≡ (changed home e.site (w.value e.site) e.entry.event).marks k i = ap (λ z. (n.value z).marks k i) at ∙ ap (λ (v : State). v.marks k i) st.here in
            elim (mark_move home e.site (w.value e.site) e.entry.event k i) [
              | inl same ↦ omega (arith, was, now, same, low)
              | inr more ↦ elim more [
                | inl wiped ↦ elim wiped.1 [
                  | inl idle ↦ absurd (true≢false (sym block ∙ ap (λ z. is_blocked (n.value z) k) at ∙ ap (λ v. is_blocked v k) st.here ∙ idle))
                  | inr ask ↦ absurd (true≢false (sym ask ∙ calm))
                ]
                | inr new ↦
                    let is = new.6 in
                    let over = ltb-true ((w.value e.site).marks k i) new.2 (and_parts (passes (w.value e.site) new.2 i k && (w.value e.site).owed k new.3) (ltb ((w.value e.site).marks k i) new.2) new.5).1 in
                    omega (arith, was, now, is, over, low)
              ]
            ]
      ]

-- what probes weigh, and of which ask they are
probes_weigh : (g : Frame → ℕ) → ((i n j k : ℕ) → g (Probe i n j k) ≡ 1) → (home : ℕ → ℕ) (s : ℕ) (v : State) (c i m p : ℕ) (xs : List (ℕ × Message)) → AllByRecursion (IsProbe home s v c i m p) xs → total g (sent_by s xs) ≡ length xs
probes_weigh g ones home s v c i m p [] h = refl
probes_weigh g ones home s v c i m p (x ∷ xs) h =
    let r = probes_weigh g ones home s v c i m p xs h.1 in
    let one : g x.1.frame ≡ 1 = ap (λ (z : Message). g z.frame) h.0.6 ∙ ones i m h.0.0 h.0.1 in
    omega (arith, r, one)

probes_numbered : (home : ℕ → ℕ) (s : ℕ) (v : State) (c i m p : ℕ) (ds : List (ℕ × ℕ)) → In (i, m) ds → (xs : List (ℕ × Message)) → AllByRecursion (IsProbe home s v c i m p) xs → AllNumbered ds (sent_by s xs)
probes_numbered home s v c i m p ds d [] h = tt
probes_numbered home s v c i m p ds d (x ∷ xs) h = (
  subst (λ (z : Message). Numbered ds z.frame) (sym h.0.6) (λ y g. elim g [ inl e ↦ subst (λ q. In q ds) e d | inr none ↦ absurd none ]),
  probes_numbered home s v c i m p ds d xs h.1,
)

module _ (home : ℕ → ℕ) (before : List WorldEvent) (run : IsRun home before) (ds : List (ℕ × ℕ)) where
  abbrev mass : World → ℕ
  mass w = parts (open_at home w) (waits_beside home before) ds (blocked home before)

  -- no waits but those of before
  abbrev NoneNew : World → Type 0
  NoneNew w = (x y : ℕ) → waits_for (w.value (home x)) x y ≡ true → waits_for (state_of home (home x) before) x y ≡ true

  listed : (w : World) → NoneNew w → (k : ℕ) → is_blocked (w.value (home k)) k ≡ true → in_list (blocked home before) k ≡ true
  listed w old k h =
      let r = some_in ((w.value (home k)).waits k) h in
      let was : is_blocked (state_of home (home k) before) k ≡ true = in_some ((state_of home (home k) before).waits k) r.0 (old k r.0 r.1) in
      in_blocked home before k (askers_list home before run k was) was

  module _ (w : World) (e : WorldEvent) (n : World) (st : Step home w e n) (old : NoneNew w) where
    -- probes sent at k are at most the waits beside it
    probes_few : (c i m k : ℕ) → home k ≡ e.site → AreProbes home e.site (w.value e.site) c i m k e.entry.sent → length e.entry.sent ≤ waits_beside home before k
    probes_few c i m k at are =
        let each = each_probe home e.site (w.value e.site) c i m k e.entry.sent are in
        at_most (λ x. (home x.1, record { clock = c; frame = Probe i m x.0 x.1 })) e.entry.sent (waits_from home before (home k) (blocked home before)) each.once (of_all e.entry.sent each.each)
      where
        of_all : (xs : List (ℕ × Message)) → AllByRecursion (IsProbe home e.site (w.value e.site) c i m k) xs
            → AllByRecursion (Of (λ x. (home x.1, record { clock = c; frame = Probe i m x.0 x.1 })) (waits_from home before (home k) (blocked home before))) xs
        of_all [] h = tt
        of_all (x ∷ xs) h =
            let j : ℕ = h.0.0 in
            let q : ℕ = h.0.1 in
            let at_j : home j ≡ e.site = path_home home e.site (w.value e.site) m i k h.0.5.0 j at h.0.5.1 in
            let waits : waits_for (w.value (home j)) j q ≡ true = ap (λ z. waits_for (w.value z) j q) at_j ∙ (and_parts (waits_for (w.value e.site) j q) _ h.0.4).0 in
            let was = old j q waits in
            let same : home j ≡ home k = at_j ∙ sym at in
            let first = h.0.2 in
            let second = h.0.6 in (
              ((j, q), in_beside home before (home k) j q (blocked home before) (listed w old j (in_some ((w.value (home j)).waits j) q waits)) same (sym (ap (λ z. waits_for (state_of home z before) j q) same) ∙ was) (λ g. h.0.3 (g ∙ at)), (λ t. (first t, second t))),
              of_all xs h.1,
            )

    abbrev Result : Frame → Type 0
    Result f = (total weight (sent_by e.site e.entry.sent) + mass n + 1 ≤ weight f + mass w) × AllNumbered ds (sent_by e.site e.entry.sent)

    module _ (a c : ℕ) (calm : is_ask e.entry.event ≡ false) where
      fewer : mass n ≤ mass w
      fewer = parts_le (open_at home n) (open_at home w) (waits_beside home before) ds (blocked home before) (open_was home w e n st calm)

      silent : (f : Frame) → 1 ≤ weight f → e.entry.sent ≡ [] → Result f
      silent f one none =
          let z = ap (λ l. total weight (sent_by e.site l)) none in
          let less = fewer in
          (omega (arith, z, less, one), subst (λ l. AllNumbered ds (sent_by e.site l)) (sym none) tt)

      lower : (i m j k : ℕ) → e.entry.event ≡ Got a c (Probe i m j k) → home k ≡ e.site → In (i, m) ds → probe_acts (w.value e.site) i m j k ≡ true → mass n + waits_beside home before k ≤ mass w
      lower i m j k ev at new acts =
          let parts3 = and_parts (passes (w.value e.site) m i k && (w.value e.site).owed k j) (ltb ((w.value e.site).marks k i) m) acts in
          let pass = (and_parts (passes (w.value e.site) m i k) ((w.value e.site).owed k j) parts3.0).0 in
          let r = passes_in (w.value e.site) m i k pass in
          let block : is_blocked (w.value (home k)) k ≡ true = ap (λ z. is_blocked (w.value z) k) at ∙ in_some ((w.value e.site).waits k) r.0 r.1 in
          let was : open_at home w k i m ≡ true = and_both (is_blocked (w.value (home k)) k) (ltb ((w.value (home k)).marks k i) m) block (ap (λ z. ltb ((w.value z).marks k i) m) at ∙ parts3.1) in
          let mark : (n.value (home k)).marks k i ≡ m =
          ap (λ z. (n.value z).marks k i) at ∙ ap (λ (v : State). v.marks k i) st.here ∙ ap (λ z. (changed home e.site (w.value e.site) z).marks k i) ev
          ∙ ap (λ z. (if z then record (w.value e.site) { marks = λ p. if p == k then (λ q. if q == i then m else (w.value e.site).marks k q) else (w.value e.site).marks p } else w.value e.site).marks k i) acts
          ∙ ap (λ z. (if z then (λ q. if q == i then m else (w.value e.site).marks k q) else (w.value e.site).marks k) i) (eq-eqb k k refl) ∙ ap (λ z. if z then m else (w.value e.site).marks k i) (eq-eqb i i refl) in
          let now : open_at home n k i m ≡ false = false_from_ne_true _ (λ y.
          let low = ltb-true ((n.value (home k)).marks k i) m (and_parts (is_blocked (n.value (home k)) k) (ltb ((n.value (home k)).marks k i) m) y).1 in
          absurd (omega (arith, low, mark))) in
          parts_less (open_at home n) (open_at home w) (waits_beside home before) ds (blocked home before) (open_was home w e n st calm) k i m (listed w old k block) new now was

      by_frame : (f : Frame) → e.entry.event ≡ Got a c f → Accepts home e.site (w.value e.site) (Got a c f) → Sends home e.site (w.value e.site) (Got a c f) e.entry.sent e.entry.declared → Numbered ds f → Result f
      by_frame (Request j k) ev acc out num = silent (Request j k) (omega arith) out.0
      by_frame (Reply_frame k j) ev acc out num = silent (Reply_frame k j) (omega arith) out.0
      by_frame (Withdraw_frame j k) ev acc out num = go ((w.value e.site).owed k j) (record { clock = max (w.value e.site).clock c; frame = Reply_frame k j }) refl out.0
        where
          go : (z : Bool) (m : Message) → m.frame ≡ Reply_frame k j → e.entry.sent ≡ (if z then (a, m) ∷ [] else []) → Result (Withdraw_frame j k)
          go true m is h =
              let z = ap (λ l. total weight (sent_by e.site l)) h in
              let one : weight m.frame ≡ 1 = ap weight is in
              let l = fewer in
              (omega (arith, z, one, l), subst (λ l. AllNumbered ds (sent_by e.site l)) (sym h) (subst (Numbered ds) (sym is) (λ x g. absurd g), tt))
          go false m is h = silent (Withdraw_frame j k) (omega arith) h
      by_frame (Probe i m j k) ev acc out num = go (probe_acts (w.value e.site) i m j k) refl out
        where
          go : (z : Bool) → probe_acts (w.value e.site) i m j k ≡ z
              → MatchBool z (DeclaresOrProbes home (ReachesLocally home e.site (w.value e.site) m i k i × (passes (w.value e.site) m i i ≡ true)) e.site (w.value e.site) (max (w.value e.site).clock c) i m k e.entry.sent e.entry.declared) ((e.entry.sent ≡ []) × (e.entry.declared ≡ None))
              → Result (Probe i m j k)
          go false acts h = silent (Probe i m j k) (omega arith) h.0
          go true acts (inl h) = silent (Probe i m j k) (omega arith) h.1
          go true acts (inr h) =
              let few = probes_few (max (w.value e.site).clock c) i m k acc.2 h.1 in
              let weigh = probes_weigh weight (λ i n j k. refl) home e.site (w.value e.site) (max (w.value e.site).clock c) i m k e.entry.sent (each_probe home e.site (w.value e.site) (max (w.value e.site).clock c) i m k e.entry.sent h.1).each in
              let low = lower i m j k ev acc.2 (num (i, m) (inl refl)) acts in
              (omega (arith, few, weigh, low), probes_numbered home e.site (w.value e.site) (max (w.value e.site).clock c) i m k ds (num (i, m) (inl refl)) e.entry.sent (each_probe home e.site (w.value e.site) (max (w.value e.site).clock c) i m k e.entry.sent h.1).each)

      -- the same, for its probes
      abbrev FewProbes : Frame → Type 0
      FewProbes f = total probe_weight (sent_by e.site e.entry.sent) + mass n + probe_weight f ≤ probe_weight f + mass w

      probeless : (f : Frame) → e.entry.sent ≡ [] → FewProbes f
      probeless f none = let z = ap (λ l. total probe_weight (sent_by e.site l)) none in let l = fewer in omega (arith, z, l)

      by_probes : (f : Frame) → e.entry.event ≡ Got a c f → Accepts home e.site (w.value e.site) (Got a c f) → Sends home e.site (w.value e.site) (Got a c f) e.entry.sent e.entry.declared → Numbered ds f → FewProbes f
      by_probes (Request j k) ev acc out num = probeless (Request j k) out.0
      by_probes (Reply_frame k j) ev acc out num = probeless (Reply_frame k j) out.0
      by_probes (Withdraw_frame j k) ev acc out num = go ((w.value e.site).owed k j) (record { clock = max (w.value e.site).clock c; frame = Reply_frame k j }) refl out.0
        where
          go : (z : Bool) (m : Message) → m.frame ≡ Reply_frame k j → e.entry.sent ≡ (if z then (a, m) ∷ [] else []) → FewProbes (Withdraw_frame j k)
          go true m is h = let z = ap (λ l. total probe_weight (sent_by e.site l)) h in let one : probe_weight m.frame ≡ 0 = ap probe_weight is in let l = fewer in omega (arith, z, one, l)
          go false m is h = probeless (Withdraw_frame j k) h
      by_probes (Probe i m j k) ev acc out num = go (probe_acts (w.value e.site) i m j k) refl out
        where
          go : (z : Bool) → probe_acts (w.value e.site) i m j k ≡ z
              → MatchBool z (DeclaresOrProbes home (ReachesLocally home e.site (w.value e.site) m i k i × (passes (w.value e.site) m i i ≡ true)) e.site (w.value e.site) (max (w.value e.site).clock c) i m k e.entry.sent e.entry.declared) ((e.entry.sent ≡ []) × (e.entry.declared ≡ None))
              → FewProbes (Probe i m j k)
          go false acts h = probeless (Probe i m j k) h.0
          go true acts (inl h) = probeless (Probe i m j k) h.1
          go true acts (inr h) =
              let few = probes_few (max (w.value e.site).clock c) i m k acc.2 h.1 in
              let weigh = probes_weigh probe_weight (λ i n j k. refl) home e.site (w.value e.site) (max (w.value e.site).clock c) i m k e.entry.sent (each_probe home e.site (w.value e.site) (max (w.value e.site).clock c) i m k e.entry.sent h.1).each in
              let low = lower i m j k ev acc.2 (num (i, m) (inl refl)) acts in
              omega (arith, few, weigh, low)

    -- events that send no probe
    abbrev Probeless : List (ℕ × Message) → Type 0
    Probeless sent = (total probe_weight (sent_by e.site sent) ≡ 0) × AllNumbered ds (sent_by e.site sent)

    one_less : (b : ℕ) (m : Message) (sent : List (ℕ × Message)) → ask_of m.frame ≡ [] → probe_weight m.frame ≡ 0 → Probeless sent → Probeless ((b, m) ∷ sent)
    one_less b m sent none zero' h =
        let z = h.0 in (omega (arith, z, zero'), ((λ x g. absurd (subst (In x) none g)), h.1))

    withdraws_less : (c j : ℕ) (ks : List ℕ) → Probeless (withdraws home e.site c j ks)
    withdraws_less c j [] = (refl, tt)
    withdraws_less c j (k ∷ ks) = go (home k == e.site) (withdraws_less c j ks)
      where
        go : (z : Bool) → Probeless (withdraws home e.site c j ks) → Probeless (if z then withdraws home e.site c j ks else (home k, record { clock = c; frame = Withdraw_frame j k }) ∷ withdraws home e.site c j ks)
        go true h = h
        go false h = one_less (home k) (record { clock = c; frame = Withdraw_frame j k }) (withdraws home e.site c j ks) refl refl h

    reply_less : (c k j : ℕ) (z : Bool) → Probeless (if z then [] else (home j, record { clock = c; frame = Reply_frame k j }) ∷ [])
    reply_less c k j true = (refl, tt)
    reply_less c k j false = one_less (home j) (record { clock = c; frame = Reply_frame k j }) [] refl refl (refl, tt)

    abbrev Gone : List Flying → Event → Type 0
    Gone xs ev = (ys : List Flying) × Lists n ys × AllNumbered ds ys × NoneNew n × (total probe_weight ys + mass n + probe_got ev ≤ total probe_weight xs + mass w)

    own_gone : (xs : List Flying) → Lists w xs → AllNumbered ds xs → is_ask e.entry.event ≡ false → (ev : Event) → probe_got ev ≡ 0 → ((a : ℕ) → message_from a e.entry.event ≡ []) → Probeless e.entry.sent → Gone xs ev
    own_gone xs flat num calm ev none quiet kept =
        let t = total-append probe_weight xs (sent_by e.site e.entry.sent) in
        let z = kept.0 in
        let f = parts_le (open_at home n) (open_at home w) (waits_beside home before) ds (blocked home before) (open_was home w e n st calm) in
        (xs ++ sent_by e.site e.entry.sent, own_flat home w e n st xs flat quiet, numbered_append ds xs (sent_by e.site e.entry.sent) num kept.1, (λ x y h. old x y (waits_was home w e n st calm x y h)), omega (arith, t, z, f, none))

    gone : (xs : List Flying) → Lists w xs → AllNumbered ds xs → (ev : Event) → e.entry.event ≡ ev → is_ask ev ≡ false → Sends home e.site (w.value e.site) ev e.entry.sent e.entry.declared → Gone xs ev
    gone xs flat num (Ask j ks) ev calm out = absurd (true≢false calm)
    gone xs flat num (Reply k j) ev calm out = own_gone xs flat num (ap is_ask ev) (Reply k j) refl (λ a. ap (message_from a) ev) (subst Probeless (sym out.0) (reply_less (w.value e.site).clock k j (home j == e.site)))
    gone xs flat num (Withdraw j ks) ev calm out = own_gone xs flat num (ap is_ask ev) (Withdraw j ks) refl (λ a. ap (message_from a) ev) (subst Probeless (sym out.0) (withdraws_less (w.value e.site).clock j ks))
    gone xs flat num (Turn d) ev calm out = own_gone xs flat num (ap is_ask ev) (Turn d) refl (λ a. ap (message_from a) ev) (subst Probeless (sym out.0) (refl, tt))
    gone xs flat num (Got a c f) ev calm out =
        let r = got_flat home w e n st xs flat a c f ev in
        let still : is_ask e.entry.event ≡ false = ap is_ask ev in
        let both = r.3 ds num in
        let acc = subst (Accepts home e.site (w.value e.site)) ev st.accepted in
        let few = by_probes a c still f ev acc out both.1 in
        let nums = (by_frame a c still f ev acc out both.1).1 in
        let w1 = r.2 probe_weight in
        let w2 = total-append probe_weight r.0 (sent_by e.site e.entry.sent) in
        (r.0 ++ sent_by e.site e.entry.sent, r.1, numbered_append ds r.0 (sent_by e.site e.entry.sent) both.0 nums, (λ x y h. old x y (waits_was home w e n st still x y h)), omega (arith, few, w1, w2))

    abbrev Delivered : List Flying → Type 0
    Delivered xs = (ys : List Flying) × Lists n ys × AllNumbered ds ys × NoneNew n × (total weight ys + mass n + 1 ≤ total weight xs + mass w)

    delivered : (xs : List Flying) → Lists w xs → AllNumbered ds xs → (ev : Event) → e.entry.event ≡ ev → is_delivery ev ≡ true → Delivered xs
    delivered xs flat num (Ask j ks) ev got = absurd (true≢false (sym got))
    delivered xs flat num (Reply j k) ev got = absurd (true≢false (sym got))
    delivered xs flat num (Withdraw j ks) ev got = absurd (true≢false (sym got))
    delivered xs flat num (Turn d) ev got = absurd (true≢false (sym got))
    delivered xs flat num (Got a c f) ev got =
        let r = got_flat home w e n st xs flat a c f ev in
        let calm : is_ask e.entry.event ≡ false = ap is_ask ev in
        let both = r.3 ds num in
        let out = by_frame a c calm f ev (subst (Accepts home e.site (w.value e.site)) ev st.accepted) (subst (λ z. Sends home e.site (w.value e.site) z e.entry.sent e.entry.declared) ev st.sends) both.1 in
        let low = out.0 in
        let w1 = r.2 weight in
        let w2 = total-append weight r.0 (sent_by e.site e.entry.sent) in
        (r.0 ++ sent_by e.site e.entry.sent, r.1, numbered_append ds r.0 (sent_by e.site e.entry.sent) both.0 out.1, (λ x y h. old x y (waits_was home w e n st calm x y h)), omega (arith, low, w1, w2))

  bounded : (so_far rest : List WorldEvent) → IsRun home (so_far ++ rest) → AreDeliveries rest → NoneNew (world_of home so_far) → (xs : List Flying) → AreUnderWay so_far xs → AllNumbered ds xs → length rest ≤ total weight xs + mass (world_of home so_far)
  bounded so_far [] run2 all old xs flat num = omega arith
  bounded so_far (e ∷ rest) run2 all old xs flat num =
      let same = append_assoc so_far (e ∷ []) rest in
      let r = delivered (world_of home so_far) e (world_of home (so_far ++ e ∷ [])) (one_step home so_far e rest run2) old xs flat num e.entry.event refl all.0 in
      let low = r.4 in
      let more = bounded (so_far ++ e ∷ []) rest (subst (IsRun home) (sym same) run2) all.1 r.3 r.0 r.1 r.2 in
      omega (arith, low, more)

  probes_bounded : (so_far rest : List WorldEvent) → IsRun home (so_far ++ rest) → AllByRecursion (λ (e : WorldEvent). is_ask e.entry.event ≡ false) rest → NoneNew (world_of home so_far) → (xs : List Flying) → AreUnderWay so_far xs → AllNumbered ds xs
      → probes_got rest ≤ total probe_weight xs + mass (world_of home so_far)
  probes_bounded so_far [] run2 all old xs flat num = omega arith
  probes_bounded so_far (e ∷ rest) run2 all old xs flat num =
      let same = append_assoc so_far (e ∷ []) rest in
      let step = one_step home so_far e rest run2 in
      let r = gone (world_of home so_far) e (world_of home (so_far ++ e ∷ [])) step old xs flat num e.entry.event refl all.0 step.sends in
      let low = r.4 in
      let more = probes_bounded (so_far ++ e ∷ []) rest (subst (IsRun home) (sym same) run2) all.1 r.3 r.0 r.1 r.2 in
      omega (arith, low, more)

  none_left : (so_far : List WorldEvent) → IsRun home so_far → AreUnderWay so_far [] → (a b : ℕ) → receipts a b so_far ≡ sendings a b so_far
  none_left so_far run2 flat a b =
      sym (append-nil (receipts a b so_far)) ∙ ap (λ l. receipts a b so_far ++ l) (flat a b) ∙ whole (receipts a b so_far) (sendings a b so_far) (run2.in_order so_far ([], append-nil so_far) a b)

  drains : (fuel : ℕ) (so_far : List WorldEvent) → IsRun home so_far → NoneNew (world_of home so_far) → (xs : List Flying) → AreUnderWay so_far xs → AllNumbered ds xs → total weight xs + mass (world_of home so_far) ≤ fuel
      → (rest : List WorldEvent) × IsRun home (so_far ++ rest) × AreDeliveries rest × ((a b : ℕ) → receipts a b (so_far ++ rest) ≡ sendings a b (so_far ++ rest))
  drains fuel so_far run2 old [] flat num low = ([], subst (IsRun home) (sym (append-nil so_far)) run2, tt, subst (λ l. (a b : ℕ) → receipts a b l ≡ sendings a b l) (sym (append-nil so_far)) (none_left so_far run2 flat))
  drains zero so_far run2 old (x ∷ xs) flat num low = absurd (heavy x.message.frame low)
    where
      heavy : (f : Frame) → weight f + total weight xs + mass (world_of home so_far) ≤ 0 → ⊥
      heavy (Request j k) h = absurd (omega (arith, h))
      heavy (Reply_frame j k) h = absurd (omega (arith, h))
      heavy (Withdraw_frame j k) h = absurd (omega (arith, h))
      heavy (Probe i n j k) h = absurd (omega (arith, h))
  drains (suc fuel) so_far run2 old (x ∷ xs) flat num low =
      let first : under_way x.from x.to so_far ≡ x.message ∷ on_link x.from x.to xs =
      sym (flat x.from x.to) ∙ ap (λ z. if z then x.message ∷ on_link x.from x.to xs else on_link x.from x.to xs) (and_both (x.from == x.from) (x.to == x.to) (eq-eqb x.from x.from refl) (eq-eqb x.to x.to refl)) in
      let on = (runs_go_on home so_far run2).1 x.from x.to x.message (on_link x.from x.to xs) first in
      let e : WorldEvent = record { site = x.to; entry = record { event = Got x.from x.message.clock x.message.frame; sent = on.0; declared = on.1 } } in
      let r = delivered (world_of home so_far) e (world_of home (so_far ++ e ∷ [])) (one_step home so_far e [] on.2) old (x ∷ xs) flat num e.entry.event refl refl in
      let less = r.4 in
      let more = drains fuel (so_far ++ e ∷ []) on.2 r.3 r.0 r.1 r.2 (omega (arith, less, low)) in
      let same = append_assoc so_far (e ∷ []) more.0 in
      (e ∷ more.0, subst (IsRun home) same more.1, (refl, more.2), subst (λ l. (a b : ℕ) → receipts a b l ≡ sendings a b l) same more.3)

pub rest_is_bounded : RestIsBounded
rest_is_bounded home before run =
    let xs = flights home before run in
    let ds : List (ℕ × ℕ) = each_once (asks_of xs.0) in (
      xs.0,
      xs.1,
      λ rest run2 all.
          let low = bounded home before run ds before rest run2 all (λ x y h. h) xs.0 xs.1 (all_numbered ds xs.0 (λ x h. in_once x (asks_of xs.0) h)) in
          let most = parts_most home before (open_at home (world_of home before)) ds (blocked home before) in
          omega (arith, low, most),
    )

pub rest_comes : RestComes
rest_comes home before run =
    let xs = flights home before run in
    let ds : List (ℕ × ℕ) = each_once (asks_of xs.0) in
    drains home before run ds (total weight xs.0 + mass home before run ds (world_of home before)) before run (λ x y h. h) xs.0 xs.1 (all_numbered ds xs.0 (λ x h. in_once x (asks_of xs.0) h)) (omega arith)

pub probes_are_bounded : ProbesAreBounded
probes_are_bounded home before run =
    let xs = flights home before run in
    let ds : List (ℕ × ℕ) = each_once (asks_of xs.0) in (
      xs.0,
      xs.1,
      λ rest run2 all.
          let low = probes_bounded home before run ds before rest run2 all (λ x y h. h) xs.0 xs.1 (all_numbered ds xs.0 (λ x h. in_once x (asks_of xs.0) h)) in
          let most = parts_most home before (open_at home (world_of home before)) ds (blocked home before) in
          omega (arith, low, most),
    )

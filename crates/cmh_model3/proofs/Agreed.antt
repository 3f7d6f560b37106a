-- What the controllers keep agrees with the events.
use Rattle.std.proofs.Common.{◌≡◌, ◌≢◌, ◌⊎◌, ℕ, ◌+◌, max, Bool, true, false, not, ◌&&◌, ◌||◌, List, [], ◌∷◌, ◌++◌, ◌==◌, if◌then◌else◌, refl, sym, ap, ◌∙◌, inl, inr, Option, true≢false, append-nil, append_assoc, arith}
use Rattle.std.proofs.lemmas.Bool.{cases_Bool, cases_eq, eqb-true, eq-eqb, ne_eqb, and_parts, false_from_ne_true}
use Rattle.cmh_model3.specs.declared.frame.Frame.TheVariants.{Request, Reply as Reply_frame, Withdraw as Withdraw_frame, Probe}
use Rattle.cmh_model3.specs.declared.frame.Message.{Message}
use Rattle.cmh_model3.specs.declared.event.Event.{Event}
use Rattle.cmh_model3.specs.declared.event.Event.TheVariants.{Ask, Reply, Withdraw, Got, Turn}
use Rattle.cmh_model3.specs.Lists.{in_list, without, without_all, set_pair}
use Rattle.cmh_model3.specs.Entries.{WorldEvent}
use Rattle.cmh_model3.specs.State.{State, waits_for, with_waits}
use Rattle.cmh_model3.specs.Rules.{Sends, changed, requests, withdraws}
use Rattle.cmh_model3.specs.Journals.{frames_to, message_from}
use Rattle.cmh_model3.specs.Waits.{begins, ends}
use Rattle.cmh_model3.specs.Frames.{bit, count, is_reply}
use Rattle.cmh_model3.proofs.World.{is_request, is_withdraw, World, Step, sent_on, got_on}
use Rattle.cmh_model3.proofs.Invariants.{SingleWaits, WaitAgrees, NewerBehind, Agrees, WaitsAgree}
use Rattle.cmh_model3.proofs.Counts.{both_or_not, both_yes, and_no, count-append, count_if, count_sent_append, count_empty, count_none, requests_none, outcome_counts, NoneOf, without_same, in_minus}
use Rattle.cmh_model3.proofs.Moves.{probe_counts}
use Rattle.cmh_model3.proofs.Askers.{asker_move}
use Rattle.cmh_model3.proofs.Kept.{link_count, sent_yes, sent_no, got_yes, got_no, here, single_waits_kept}
use Rattle.cmh_model3.proofs.Settled.{begins_home, ends_home}
use Rattle.cmh_model3.proofs.Crossings.{crossings_agree}

-- an element of a joined list stands in the first or in the second
pub split_append : {X : Type 0} (xs ys before : List X) (p : X) (after : List X) → xs ++ ys ≡ before ++ p ∷ after
    → ((rest : List X) × (xs ≡ before ++ p ∷ rest) × (after ≡ rest ++ ys)) ⊎ ((front : List X) × (before ≡ xs ++ front) × (ys ≡ front ++ p ∷ after))
split_append [] ys before p after h = inr (before, refl, h)
split_append (x ∷ xs) ys [] p after h =
    let same : x ≡ p = cc h in
    let tail : xs ++ ys ≡ after = cc h in
    inl (xs, (λ t. same t ∷ xs), sym tail)
split_append (x ∷ xs) ys (y ∷ before) p after h =
    let same : x ≡ y = cc h in
    let tail : xs ++ ys ≡ before ++ p ∷ after = cc h in
    elim (split_append xs ys before p after tail) [
      | inl r ↦ inl (r.0, (λ t. same t ∷ r.1 t), r.2)
      | inr r ↦ inr (r.0, (λ t. sym same t ∷ r.1 t), r.2)
    ]

module _ (home : ℕ → ℕ) (s : ℕ) (v : State) (j k : ℕ) where
  -- where j waits for k after an event of its site, no reply of k has just come
  pub no_reply_came : (b : ℕ) (ev : Event) → waits_for (changed home s v ev) j k ≡ true → count (is_reply k j) (message_from b ev) ≡ 0
  no_reply_came b (Ask i ks) h = refl
  no_reply_came b (Reply x i) h = refl
  no_reply_came b (Withdraw i ks) h = refl
  no_reply_came b (Turn d) h = refl
  no_reply_came b (Got a c (Request x y)) h = count_if (is_reply k j) (a == b) (record { clock = c; frame = Request x y }) ∙ ap bit (and_no (a == b))
  no_reply_came b (Got a c (Withdraw_frame x y)) h = count_if (is_reply k j) (a == b) (record { clock = c; frame = Withdraw_frame x y }) ∙ ap bit (and_no (a == b))
  no_reply_came b (Got a c (Probe i n x y)) h = count_if (is_reply k j) (a == b) (record { clock = c; frame = Probe i n x y }) ∙ ap bit (and_no (a == b))
  no_reply_came b (Got a c (Reply_frame x i)) h = elim (both_or_not x i k j) [
    | inl e ↦ absurd (true≢false (sym h ∙ gone (waits_for v i x) refl e.0 e.1))
    | inr o ↦ count_if (is_reply k j) (a == b) (record { clock = c; frame = Reply_frame x i }) ∙ ap (λ z. bit ((a == b) && z)) o ∙ ap bit (and_no (a == b))
  ]
    where
      gone : (z : Bool) → waits_for v i x ≡ z → x ≡ k → i ≡ j → waits_for (if z then with_waits v i (without (v.waits i) x) else record v { leaving = set_pair v.leaving i x false }) j k ≡ false
      gone true w ek ej = ap (λ z. in_list (if z then without (v.waits i) x else v.waits j) k) (eq-eqb j i (sym ej)) ∙ ap (λ q. in_list (without (v.waits i) q) k) ek ∙ without_same (v.waits i) k
      gone false w ek ej = ap (λ q. in_list (v.waits q) k) (sym ej) ∙ ap (λ q. in_list (v.waits i) q) (sym ek) ∙ w

  withdraws_other : (c i : ℕ) (ks : List ℕ) → ((i == j) && in_list ks k) ≡ false → NoneOf (is_withdraw j k) (withdraws home s c i ks)
  withdraws_other c i [] h = tt
  withdraws_other c i (q ∷ ks) h = go (home q == s) (first (i == j) (q == k) (in_list ks k) h) (withdraws_other c i ks (more (i == j) (q == k) (in_list ks k) h))
    where
      first : (a b d : Bool) → (a && (b || d)) ≡ false → (a && b) ≡ false
      first true true d g = g
      first true false d g = refl
      first false b d g = refl

      more : (a b d : Bool) → (a && (b || d)) ≡ false → (a && d) ≡ false
      more true true d g = absurd (true≢false g)
      more true false d g = g
      more false b d g = refl

      go : (z : Bool) → ((i == j) && (q == k)) ≡ false → NoneOf (is_withdraw j k) (withdraws home s c i ks) → NoneOf (is_withdraw j k) (if z then withdraws home s c i ks else (home q, record { clock = c; frame = Withdraw_frame i q }) ∷ withdraws home s c i ks)
      go true f g = g
      go false f g = (f, g)

  -- who sends a withdraw doesn't wait
  pub withdraw_sent : (b : ℕ) (sent : List (ℕ × Message)) (d : Option ℕ) (ev : Event) → Sends home s v ev sent d → (count (is_withdraw j k) (frames_to b sent) ≡ 0) ⊎ (waits_for (changed home s v ev) j k ≡ false)
  withdraw_sent b sent d (Ask i ks) out =
      let c1 = ap (λ l. count (is_withdraw j k) (frames_to b l)) out.1 in
      let c2 = count_sent_append (is_withdraw j k) b (requests home s (v.clock + 1) i ks) out.0 in
      let c3 = count_none (is_withdraw j k) b (requests home s (v.clock + 1) i ks) (requests_none home (is_withdraw j k) s (v.clock + 1) i ks (λ q. refl)) in
      let c4 = outcome_counts home _ (is_withdraw j k) b s _ (v.clock + 1) i (v.clock + 1) i out.0 d (λ c i n a b. refl) out.2 in
      inl (omega (arith, c1, c2, c3, c4))
  withdraw_sent b sent d (Reply h i) out = inl (ap (λ l. count (is_withdraw j k) (frames_to b l)) out.0 ∙ go (home i == s) (home i) v.clock h i)
    where
      go : (z : Bool) (x c h i : ℕ) → count (is_withdraw j k) (frames_to b (if z then [] else (x, record { clock = c; frame = Reply_frame h i }) ∷ [])) ≡ 0
      go true x c h i = refl
      go false x c h i = count_none (is_withdraw j k) b ((x, record { clock = c; frame = Reply_frame h i }) ∷ []) (refl, tt)
  withdraw_sent b sent d (Withdraw i ks) out = elim (cases_Bool ((i == j) && in_list ks k)) [
    | inl y ↦
        let both = and_parts (i == j) (in_list ks k) y in
        let e = eqb-true i j both.0 in
        inr (ap (λ z. in_list (if z then without_all (v.waits i) ks else v.waits j) k) (eq-eqb j i (sym e)) ∙ in_minus (v.waits i) ks k ∙ ap (λ z. in_list (v.waits i) k && not z) both.1 ∙ and_no (in_list (v.waits i) k))
    | inr o ↦ inl (ap (λ l. count (is_withdraw j k) (frames_to b l)) out.0 ∙ count_none (is_withdraw j k) b (withdraws home s v.clock i ks) (withdraws_other v.clock i ks o))
  ]
  withdraw_sent b sent d (Turn q1) out = inl (count_empty (is_withdraw j k) b sent out.0)
  withdraw_sent b sent d (Got a c (Request x y)) out = inl (count_empty (is_withdraw j k) b sent out.0)
  withdraw_sent b sent d (Got a c (Reply_frame x y)) out = inl (count_empty (is_withdraw j k) b sent out.0)
  withdraw_sent b sent d (Got a c (Probe i n x y)) out = inl (probe_counts home s v (is_withdraw j k) b a c i n x y sent d (λ c i n a b. refl) out)
  withdraw_sent b sent d (Got a c (Withdraw_frame x y)) out = inl (ap (λ l. count (is_withdraw j k) (frames_to b l)) out.0 ∙ go (v.owed y x) a (max v.clock c) x y)
    where
      go : (z : Bool) (a c x y : ℕ) → count (is_withdraw j k) (frames_to b (if z then (a, record { clock = c; frame = Reply_frame y x }) ∷ [] else [])) ≡ 0
      go true a c x y = count_none (is_withdraw j k) b ((a, record { clock = c; frame = Reply_frame y x }) ∷ []) (refl, tt)
      go false a c x y = refl

module _ (home : ℕ → ℕ) (w : World) (e : WorldEvent) (n : World) (inv : SingleWaits home w) (st : Step home w e n) where
  -- a wait that the event neither begins nor ends
  wait_same : (j k : ℕ) → begins j k e.entry.event ≡ false → ends j k e.entry.event ≡ false → n.wait j k ≡ w.wait j k
  wait_same j k b f = st.waits j k ∙ ap (λ z. z || (not (ends j k e.entry.event) && w.wait j k)) b ∙ ap (λ z. not z && w.wait j k) f

  wait_begun : (j k : ℕ) → begins j k e.entry.event ≡ true → n.wait j k ≡ true
  wait_begun j k b = st.waits j k ∙ ap (λ z. z || (not (ends j k e.entry.event) && w.wait j k)) b

  wait_far : (j k : ℕ) → e.site ≢ home j → e.site ≢ home k → n.wait j k ≡ w.wait j k
  wait_far j k not_j not_k = wait_same j k
      (false_from_ne_true _ (λ b. not_j (sym (begins_home home e.site (w.value e.site) e.entry.event j k st.accepted b))))
      (false_from_ne_true _ (λ f. elim (ends_home home e.site (w.value e.site) e.entry.event j k st.accepted f) [ inl g ↦ not_j (sym g) | inr g ↦ not_k (sym g) ]))

  move_here : (j k : ℕ) → e.site ≡ home j → waits_for (n.value (home j)) j k ≡ true
      → ((begins j k e.entry.event ≡ true) × (waits_for (w.value (home j)) j k ≡ false) × ((w.value (home j)).leaving j k ≡ false)) ⊎ ((waits_for (w.value (home j)) j k ≡ true) × (begins j k e.entry.event ≡ false) × (ends j k e.entry.event ≡ false))
  move_here j k h y = elim (asker_move home e.site (w.value e.site) j k e.entry.event st.accepted (sym h) (sym (ap (λ v. waits_for v j k) (here home w e n inv st (home j) h)) ∙ y)) [
    | inl b ↦ inl (b.0, sym (ap (λ z. waits_for (w.value z) j k) h) ∙ b.1, sym (ap (λ z. (w.value z).leaving j k) h) ∙ b.2)
    | inr o ↦ inr (sym (ap (λ z. waits_for (w.value z) j k) h) ∙ o.0, o.1, o.2)
  ]

  module _ (j k : ℕ) (apart : home j ≢ home k) where
    far_asker : e.site ≡ home j → WaitAgrees home w j k → WaitAgrees home n j k
    far_asker h old y =
        let not_k : e.site ≢ home k = λ g. apart (sym h ∙ g) in
        let back = link_count home w e n inv st (is_reply k j) (home k) (home j) in
        let s2 = sent_no home w e n inv st (is_reply k j) (home k) (home j) not_k in
        let g2 = got_yes home w e n inv st (is_reply k j) (home k) (home j) h in
        let came = no_reply_came home e.site (w.value e.site) j k (home k) e.entry.event (sym (ap (λ v. waits_for v j k) (here home w e n inv st (home j) h)) ∙ y) in
        elim (move_here j k h y) [
          | inl b ↦
              let one = (inv.far j k apart).0 in
              let b1 = ap bit b.1 in let b2 = ap bit b.2 in
              let now = ap bit (wait_begun j k b.0) in
              omega (arith, back, s2, g2, came, one, b1, b2, now)
          | inr o ↦
              let was = old o.0 in
              let now = ap bit (wait_same j k o.1 o.2) in
              omega (arith, back, s2, g2, came, was, now)
        ]

    far_agrees : WaitAgrees home w j k → NewerBehind home w j k → WaitAgrees home n j k
    far_agrees old newer = elim (cases_eq e.site (home j)) [
      | inl h ↦ far_asker h old
      | inr not_j ↦ elim (cases_eq e.site (home k)) [
        | inl h ↦ crossings_agree home w e n inv st j k apart h newer old
        | inr not_k ↦ λ y.
            let was = old (sym (ap (λ v. waits_for v j k) (st.elsewhere (home j) (λ g. not_j (sym g)))) ∙ y) in
            let back = link_count home w e n inv st (is_reply k j) (home k) (home j) in
            let s2 = sent_no home w e n inv st (is_reply k j) (home k) (home j) not_k in
            let g2 = got_no home w e n inv st (is_reply k j) (home k) (home j) not_j in
            let now = ap bit (wait_far j k not_j not_k) in
            omega (arith, was, back, s2, g2, now)
      ]
    ]

    newer_kept : NewerBehind home w j k → NewerBehind home n j k
    newer_kept old c ahead behind parts y = elim (cases_eq e.site (home j)) [
      | inr not_j ↦
          let none : sent_on (home j) (home k) e ≡ [] = ap (λ z. if z then frames_to (home k) e.entry.sent else []) (ne_eqb e.site (home j) not_j) in
          let queue : w.queue (home j) (home k) ≡ (got_on (home j) (home k) e ++ ahead) ++ record { clock = c; frame = Withdraw_frame j k } ∷ behind =
          sym (append-nil (w.queue (home j) (home k))) ∙ ap (λ l. w.queue (home j) (home k) ++ l) (sym none) ∙ st.links (home j) (home k) ∙ ap (λ l. got_on (home j) (home k) e ++ l) parts
          ∙ sym (append_assoc (got_on (home j) (home k) e) ahead (record { clock = c; frame = Withdraw_frame j k } ∷ behind)) in
          old c (got_on (home j) (home k) e ++ ahead) behind queue (sym (ap (λ v. waits_for v j k) (st.elsewhere (home j) (λ g. not_j (sym g)))) ∙ y)
      | inl h ↦
          let not_k : e.site ≢ home k = λ g. apart (sym h ∙ g) in
          let none : got_on (home j) (home k) e ≡ [] = ap (λ z. if z then message_from (home j) e.entry.event else []) (ne_eqb e.site (home k) not_k) in
          let queue : w.queue (home j) (home k) ++ sent_on (home j) (home k) e ≡ ahead ++ record { clock = c; frame = Withdraw_frame j k } ∷ behind =
          st.links (home j) (home k) ∙ ap (λ l. l ++ n.queue (home j) (home k)) none ∙ parts in
          let s1 = sent_yes home w e n inv st (is_request j k) (home j) (home k) h in
          elim (split_append (w.queue (home j) (home k)) (sent_on (home j) (home k) e) ahead (record { clock = c; frame = Withdraw_frame j k }) behind queue) [
            | inl r ↦
                let more = ap (count (is_request j k)) r.2 ∙ count-append (is_request j k) r.0 (sent_on (home j) (home k) e) in
                elim (move_here j k h y) [
                  | inr o ↦ let was = old c ahead r.0 r.1 o.0 in omega (arith, was, more)
                  | inl b ↦
                      let one = (inv.far j k apart).0 in
                      let new = (single_waits_kept home w e n inv st).far j k apart in
                      let new_one = new.0 in
                      let b1 = ap bit b.1 in let b2 = ap bit b.2 in
                      let held_now = ap bit y in
                      let there = link_count home w e n inv st (is_request j k) (home j) (home k) in
                      let g1 = got_no home w e n inv st (is_request j k) (home j) (home k) not_k in
                      let owed = ap (λ v. bit (v.owed k j)) (st.elsewhere (home k) (λ g. not_k (sym g))) in
                      let back = link_count home w e n inv st (is_reply k j) (home k) (home j) in
                      let s2 = sent_no home w e n inv st (is_reply k j) (home k) (home j) not_k in
                      omega (arith, more, one, new_one, b1, b2, held_now, there, g1, owed, back, s2)
                ]
            | inr r ↦ elim (withdraw_sent home e.site (w.value e.site) j k (home k) e.entry.sent e.entry.declared e.entry.event st.sends) [
              | inr stopped ↦ absurd (true≢false (sym y ∙ ap (λ v. waits_for v j k) (here home w e n inv st (home j) h) ∙ stopped))
              | inl zero ↦
                  let s3 = sent_yes home w e n inv st (is_withdraw j k) (home j) (home k) h in
                  let all = ap (count (is_withdraw j k)) r.2 ∙ count-append (is_withdraw j k) r.0 (record { clock = c; frame = Withdraw_frame j k } ∷ behind) in
                  let hit : bit ((j == j) && (k == k)) ≡ 1 = ap bit (both_yes j k j k refl refl) in
                  absurd (omega (arith, zero, s3, all, hit))
            ]
          ]
    ]

  own_agrees : (j k : ℕ) → home j ≡ home k → (waits_for (w.value (home j)) j k ≡ true → w.wait j k ≡ true) → waits_for (n.value (home j)) j k ≡ true → n.wait j k ≡ true
  own_agrees j k same old y = elim (cases_eq e.site (home j)) [
    | inl h ↦ elim (move_here j k h y) [ inl b ↦ wait_begun j k b.0 | inr o ↦ wait_same j k o.1 o.2 ∙ old o.0 ]
    | inr not_j ↦ wait_far j k not_j (λ g. not_j (g ∙ sym same)) ∙ old (sym (ap (λ v. waits_for v j k) (st.elsewhere (home j) (λ g. not_j (sym g)))) ∙ y)
  ]

pub agrees_kept : (home : ℕ → ℕ) (w : World) (e : WorldEvent) (n : World) → SingleWaits home w → Step home w e n → Agrees home w → Agrees home n
agrees_kept home w e n inv st old = record {
  far = λ j k apart. far_agrees home w e n inv st j k apart (old.far j k apart) (old.newer j k apart);
  newer = λ j k apart. newer_kept home w e n inv st j k apart (old.newer j k apart);
  own = λ j k same. own_agrees home w e n inv st j k same (old.own j k same);
}

pub bit_one : (x : Bool) → bit x ≡ 1 → x ≡ true
bit_one true h = refl
bit_one false h = absurd (omega (arith, h))

pub waits_agree : (home : ℕ → ℕ) (w : World) → Agrees home w → WaitsAgree home w
waits_agree home w h = record {
  far = λ j k apart waits none. let one = h.far j k apart waits in bit_one (w.wait j k) (omega (arith, one, none));
  own = h.own;
}

-- Replies and withdraws that cross.
use Rattle.std.proofs.Common.{◌≡◌, ◌≢◌, ◌⊎◌, ℕ, ◌+◌, max, Bool, true, false, not, ◌&&◌, ◌||◌, List, [], ◌∷◌, ◌++◌, ◌==◌, if◌then◌else◌, refl, sym, ap, ◌∙◌, inl, inr, Option, true≢false, append-nil, arith}
use Rattle.std.proofs.lemmas.Bool.{cases_Bool, eq-eqb, ne_eqb, false_from_ne_true}
use Rattle.cmh_model3.specs.declared.frame.Frame.TheVariants.{Request, Reply as Reply_frame, Withdraw as Withdraw_frame, Probe}
use Rattle.cmh_model3.specs.declared.frame.Message.{Message}
use Rattle.cmh_model3.specs.declared.event.Event.{Event}
use Rattle.cmh_model3.specs.declared.event.Event.TheVariants.{Ask, Reply, Withdraw, Got, Turn}
use Rattle.cmh_model3.specs.State.{State, waits_for}
use Rattle.cmh_model3.specs.Rules.{Accepts, Sends, requests, withdraws}
use Rattle.cmh_model3.specs.Journals.{frames_to, message_from}
use Rattle.cmh_model3.specs.Waits.{begins, ends}
use Rattle.cmh_model3.specs.Frames.{bit, count, is_reply}
use Rattle.cmh_model3.proofs.World.{is_request, sent_on, got_on}
use Rattle.cmh_model3.proofs.Invariants.{CrossingsAgree}
use Rattle.cmh_model3.proofs.Counts.{both_or_not, count_sent_append, count_empty, count_none, requests_none, withdraws_none, outcome_counts}
use Rattle.cmh_model3.proofs.Moves.{probe_counts}
use Rattle.cmh_model3.proofs.Kept.{link_count, sent_yes, got_no, single_waits_kept}
use Rattle.cmh_model3.proofs.Settled.{begins_home}
use Rattle.cmh_model3.proofs.Probes.{reply_goes}

-- a reply goes to j only where the wait ends, or as the answer to a withdraw
reply_only : (home : ℕ → ℕ) (s : ℕ) (v : State) (sent : List (ℕ × Message)) (d : Option ℕ) (j k : ℕ) (ev : Event) → Accepts home s v ev → Sends home s v ev sent d → home k ≡ s → home j ≢ s
    → (count (is_reply k j) (frames_to (home j) sent) ≡ 0) ⊎ (ends j k ev ≡ true) ⊎ ((c : ℕ) × (ev ≡ Got (home j) c (Withdraw_frame j k)) × (v.owed k j ≡ true) × (ends j k ev ≡ false))
reply_only home s v sent d j k (Ask i ks) acc out at far =
    let c1 = ap (λ l. count (is_reply k j) (frames_to (home j) l)) out.1 in
    let c2 = count_sent_append (is_reply k j) (home j) (requests home s (v.clock + 1) i ks) out.0 in
    let c3 = count_none (is_reply k j) (home j) (requests home s (v.clock + 1) i ks) (requests_none home (is_reply k j) s (v.clock + 1) i ks (λ q. refl)) in
    let c4 = outcome_counts home _ (is_reply k j) (home j) s _ (v.clock + 1) i (v.clock + 1) i out.0 d (λ c i n a b. refl) out.2 in
    inl (omega (arith, c1, c2, c3, c4))
reply_only home s v sent d j k (Reply h i) acc out at far = elim (cases_Bool ((h == k) && (i == j))) [
  | inl e ↦ inr (inl e)
  | inr o ↦ inl (ap (λ l. count (is_reply k j) (frames_to (home j) l)) out.0 ∙ miss (home i == s) o)
]
  where
    miss : (z : Bool) → ((h == k) && (i == j)) ≡ false → count (is_reply k j) (frames_to (home j) (if z then [] else (home i, record { clock = v.clock; frame = Reply_frame h i }) ∷ [])) ≡ 0
    miss true o = refl
    miss false o = count_none (is_reply k j) (home j) ((home i, record { clock = v.clock; frame = Reply_frame h i }) ∷ []) (o, tt)
reply_only home s v sent d j k (Withdraw i ks) acc out at far =
    inl (ap (λ l. count (is_reply k j) (frames_to (home j) l)) out.0 ∙ count_none (is_reply k j) (home j) (withdraws home s v.clock i ks) (withdraws_none home (is_reply k j) s v.clock i ks (λ q. refl)))
reply_only home s v sent d j k (Turn q1) acc out at far = inl (count_empty (is_reply k j) (home j) sent out.0)
reply_only home s v sent d j k (Got a c (Request x y)) acc out at far = inl (count_empty (is_reply k j) (home j) sent out.0)
reply_only home s v sent d j k (Got a c (Reply_frame x y)) acc out at far = inl (count_empty (is_reply k j) (home j) sent out.0)
reply_only home s v sent d j k (Got a c (Probe i n x y)) acc out at far = inl (probe_counts home s v (is_reply k j) (home j) a c i n x y sent d (λ c i n a b. refl) out)
reply_only home s v sent d j k (Got a c (Withdraw_frame x y)) acc out at far = elim (both_or_not y x k j) [
  | inr o ↦ inl (ap (λ l. count (is_reply k j) (frames_to (home j) l)) out.0 ∙ miss (v.owed y x) o)
  | inl e ↦ elim (cases_Bool (v.owed y x)) [
    | inr free ↦ inl (ap (λ l. count (is_reply k j) (frames_to (home j) l)) out.0 ∙ ap (λ z. count (is_reply k j) (frames_to (home j) (if z then (a, record { clock = max v.clock c; frame = Reply_frame y x }) ∷ [] else []))) free)
    | inl owes ↦ inr (inr (c, (λ i. Got ((sym acc.1 ∙ ap home e.1) i) c (Withdraw_frame (e.1 i) (e.0 i))), ap (λ q. v.owed q j) (sym e.0) ∙ ap (v.owed y) (sym e.1) ∙ owes, refl))
  ]
]
  where
    miss : (z : Bool) → ((y == k) && (x == j)) ≡ false → count (is_reply k j) (frames_to (home j) (if z then (a, record { clock = max v.clock c; frame = Reply_frame y x }) ∷ [] else [])) ≡ 0
    miss true o = count_none (is_reply k j) (home j) ((a, record { clock = max v.clock c; frame = Reply_frame y x }) ∷ []) (o, tt)
    miss false o = refl

pub crossings_agree : CrossingsAgree
crossings_agree home w e n inv st j k apart h newer agrees waits' =
    let not_j : e.site ≢ home j = λ g. apart (sym g ∙ h) in
    let waits : waits_for (w.value (home j)) j k ≡ true = sym (ap (λ v. waits_for v j k) (st.elsewhere (home j) (λ g. not_j (sym g)))) ∙ waits' in
    let old = agrees waits in
    let place = inv.far j k apart in
    let one = place.0 in let most = place.1 in
    let back = link_count home w e n inv st (is_reply k j) (home k) (home j) in
    let s2 = sent_yes home w e n inv st (is_reply k j) (home k) (home j) h in
    let g2 = got_no home w e n inv st (is_reply k j) (home k) (home j) not_j in
    let no_begin : begins j k e.entry.event ≡ false = false_from_ne_true _ (λ b. not_j (sym (begins_home home e.site (w.value e.site) e.entry.event j k st.accepted b))) in
    let now : n.wait j k ≡ (not (ends j k e.entry.event) && w.wait j k) = st.waits j k ∙ ap (λ z. z || (not (ends j k e.entry.event) && w.wait j k)) no_begin in
    elim (cases_Bool (ends j k e.entry.event)) [
      | inl ended ↦
          let gone : bit (n.wait j k) ≡ 0 = ap bit now ∙ ap (λ z. bit (not z && w.wait j k)) ended in
          let goes = reply_goes home e.site (w.value e.site) e.entry.sent e.entry.declared j k e.entry.event st.accepted st.sends (sym h) (λ g. not_j (sym g)) ended in
          let new = (single_waits_kept home w e n inv st).far j k apart in
          let new_one = new.0 in let new_most = new.1 in
          omega (arith, gone, goes, back, s2, g2, new_one, new_most)
      | inr stays ↦
          let same : bit (n.wait j k) ≡ bit (w.wait j k) = ap bit now ∙ ap (λ z. bit (not z && w.wait j k)) stays in
          elim (reply_only home e.site (w.value e.site) e.entry.sent e.entry.declared j k e.entry.event st.accepted st.sends (sym h) (λ g. not_j (sym g))) [
            | inl none ↦ omega (arith, same, none, back, s2, g2, old)
            | inr more ↦ elim more [
              | inl ended ↦ absurd (true≢false (sym ended ∙ stays))
              | inr answer ↦
                  let got : got_on (home j) (home k) e ≡ record { clock = answer.0; frame = Withdraw_frame j k } ∷ [] =
                  ap (λ z. if z then message_from (home j) e.entry.event else []) (eq-eqb e.site (home k) h) ∙ ap (message_from (home j)) answer.1
                  ∙ ap (λ z. if z then record { clock = answer.0; frame = Withdraw_frame j k } ∷ [] else []) (eq-eqb (home j) (home j) refl) in
                  let none : sent_on (home j) (home k) e ≡ [] = ap (λ z. if z then frames_to (home k) e.entry.sent else []) (ne_eqb e.site (home j) not_j) in
                  let queue : w.queue (home j) (home k) ≡ record { clock = answer.0; frame = Withdraw_frame j k } ∷ n.queue (home j) (home k) =
                  sym (append-nil (w.queue (home j) (home k))) ∙ ap (λ l. w.queue (home j) (home k) ++ l) (sym none) ∙ st.links (home j) (home k) ∙ ap (λ l. l ++ n.queue (home j) (home k)) got in
                  let behind = newer answer.0 [] (n.queue (home j) (home k)) queue waits in
                  let all = ap (count (is_request j k)) queue in
                  let owed : bit ((w.value (home k)).owed k j) ≡ 1 = ap bit (sym (ap (λ z. (w.value z).owed k j) h) ∙ answer.2) in
                  absurd (omega (arith, behind, all, owed, one, most))
            ]
          ]
    ]

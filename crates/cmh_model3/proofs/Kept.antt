-- Each event keeps each wait at one place.
use Rattle.std.proofs.Common.{◌≡◌, ◌≢◌, ℕ, ◌+◌, Bool, [], if◌then◌else◌, sym, ap, ◌∙◌, subst, inl, inr, arith}
use Rattle.std.proofs.lemmas.Bool.{cases_eq, eq-eqb, ne_eqb}
use Rattle.cmh_model3.specs.declared.frame.Message.{Message}
use Rattle.cmh_model3.specs.Entries.{WorldEvent}
use Rattle.cmh_model3.specs.State.{waits_for}
use Rattle.cmh_model3.specs.Rules.{after, changed}
use Rattle.cmh_model3.specs.Journals.{frames_to, message_from}
use Rattle.cmh_model3.specs.Frames.{bit, count, is_reply}
use Rattle.cmh_model3.proofs.World.{is_request, held, World, Step, sent_on, got_on}
use Rattle.cmh_model3.proofs.Invariants.{OnePlace, OwnPlace, SingleWaits, StepKeepsSingleWaits}
use Rattle.cmh_model3.proofs.Counts.{count-append}
use Rattle.cmh_model3.proofs.Moves.{far_to, far_from, own_move}

module _ (home : ℕ → ℕ) (w : World) (e : WorldEvent) (n : World) (inv : SingleWaits home w) (st : Step home w e n) where
  pub link_count : (p : Message → Bool) (a b : ℕ) → count p (w.queue a b) + count p (sent_on a b e) ≡ count p (got_on a b e) + count p (n.queue a b)
  link_count p a b = sym (count-append p (w.queue a b) (sent_on a b e)) ∙ ap (count p) (st.links a b) ∙ count-append p (got_on a b e) (n.queue a b)

  pub sent_yes : (p : Message → Bool) (a b : ℕ) → e.site ≡ a → count p (sent_on a b e) ≡ count p (frames_to b e.entry.sent)
  sent_yes p a b h = ap (λ z. count p (if z then frames_to b e.entry.sent else [])) (eq-eqb e.site a h)

  pub sent_no : (p : Message → Bool) (a b : ℕ) → e.site ≢ a → count p (sent_on a b e) ≡ 0
  sent_no p a b h = ap (λ z. count p (if z then frames_to b e.entry.sent else [])) (ne_eqb e.site a h)

  pub got_yes : (p : Message → Bool) (a b : ℕ) → e.site ≡ b → count p (got_on a b e) ≡ count p (message_from a e.entry.event)
  got_yes p a b h = ap (λ z. count p (if z then message_from a e.entry.event else [])) (eq-eqb e.site b h)

  pub got_no : (p : Message → Bool) (a b : ℕ) → e.site ≢ b → count p (got_on a b e) ≡ 0
  got_no p a b h = ap (λ z. count p (if z then message_from a e.entry.event else [])) (ne_eqb e.site b h)

  -- the state of the event's site afterwards
  pub here : (a : ℕ) → e.site ≡ a → n.value a ≡ after home e.site (w.value e.site) e.entry.event e.entry.declared
  here a h = subst (λ z. n.value z ≡ after home e.site (w.value e.site) e.entry.event e.entry.declared) h st.here

  far_kept : (j k : ℕ) → home j ≢ home k → OnePlace home n j k
  far_kept j k apart =
      let old = inv.far j k apart in
      let there = link_count (is_request j k) (home j) (home k) in
      let back = link_count (is_reply k j) (home k) (home j) in
      elim (cases_eq e.site (home j)) [
        | inl h ↦
            let not_k : e.site ≢ home k = λ g. apart (sym h ∙ g) in
            let before : held (w.value e.site) j k ≡ held (w.value (home j)) j k = ap (λ z. held (w.value z) j k) h in
            let move = far_from home e.site (w.value e.site) e.entry.sent e.entry.declared j k e.entry.event st.accepted st.sends (sym h) (λ g. not_k (sym g)) (omega (arith, before, old.1)) in
            let now : held (n.value (home j)) j k ≡ held (changed home e.site (w.value e.site) e.entry.event) j k = ap (λ v. held v j k) (here (home j) h) in
            let owed = ap (λ v. bit (v.owed k j)) (st.elsewhere (home k) (λ g. not_k (sym g))) in
            let s1 = sent_yes (is_request j k) (home j) (home k) h in
            let g1 = got_no (is_request j k) (home j) (home k) not_k in
            let s2 = sent_no (is_reply k j) (home k) (home j) not_k in
            let g2 = got_yes (is_reply k j) (home k) (home j) h in
            (omega (arith, old.0, there, back, before, move.0, now, owed, s1, g1, s2, g2), omega (arith, now, move.1))
        | inr not_j ↦
            let held_same = ap (λ v. held v j k) (st.elsewhere (home j) (λ g. not_j (sym g))) in
            let s1 = sent_no (is_request j k) (home j) (home k) not_j in
            let g2 = got_no (is_reply k j) (home k) (home j) not_j in
            elim (cases_eq e.site (home k)) [
              | inl h ↦
                  let before : bit ((w.value e.site).owed k j) ≡ bit ((w.value (home k)).owed k j) = ap (λ z. bit ((w.value z).owed k j)) h in
                  let move = far_to home e.site (w.value e.site) e.entry.sent e.entry.declared j k e.entry.event st.accepted st.sends (sym h) (λ g. not_j (sym g)) in
                  let now : bit ((n.value (home k)).owed k j) ≡ bit ((changed home e.site (w.value e.site) e.entry.event).owed k j) = ap (λ v. bit (v.owed k j)) (here (home k) h) in
                  let g1 = got_yes (is_request j k) (home j) (home k) h in
                  let s2 = sent_yes (is_reply k j) (home k) (home j) h in
                  (omega (arith, old.0, there, back, before, move, now, held_same, s1, g1, s2, g2), omega (arith, held_same, old.1))
              | inr not_k ↦
                  let owed = ap (λ v. bit (v.owed k j)) (st.elsewhere (home k) (λ g. not_k (sym g))) in
                  let g1 = got_no (is_request j k) (home j) (home k) not_k in
                  let s2 = sent_no (is_reply k j) (home k) (home j) not_k in
                  (omega (arith, old.0, there, back, owed, held_same, s1, g1, s2, g2), omega (arith, held_same, old.1))
            ]
      ]

  own_kept : (j k : ℕ) → home j ≡ home k → OwnPlace (n.value (home j)) j k
  own_kept j k same = elim (cases_eq e.site (home j)) [
    | inl h ↦
        let before : OwnPlace (w.value e.site) j k = subst (λ z. OwnPlace (w.value z) j k) (sym h) (inv.own j k same) in
        let move = own_move home e.site (w.value e.site) e.entry.sent e.entry.declared j k e.entry.event st.accepted (sym h) (sym same ∙ sym h) before in
        let state = here (home j) h in
        (ap (λ v. waits_for v j k) state ∙ move.0 ∙ sym (ap (λ v. v.owed k j) state), ap (λ v. v.leaving j k) state ∙ move.1)
    | inr not_j ↦ subst (λ v. OwnPlace v j k) (sym (st.elsewhere (home j) (λ g. not_j (sym g)))) (inv.own j k same)
  ]

pub single_waits_kept : StepKeepsSingleWaits
single_waits_kept home w e n inv st = record { far = far_kept home w e n inv st; own = own_kept home w e n inv st }

-- What is behind a probe.
use Rattle.std.proofs.Common.{◌≡◌, ◌≢◌, ℕ, ◌≤◌, Bool, true, false, not, ◌&&◌, ◌||◌, List, [], ◌∷◌, ◌++◌, ◌==◌, if◌then◌else◌, refl, sym, ap, ◌∙◌, subst, inl, inr, Option, true≢false, arith}
use Rattle.std.proofs.lemmas.Bool.{cases_eq, eqb-true, and_parts, lt-ltb, cases_lt, false_from_ne_true}
use Rattle.cmh_model3.specs.declared.frame.Message.{Message}
use Rattle.cmh_model3.specs.declared.event.Event.{Event}
use Rattle.cmh_model3.specs.declared.event.Event.TheVariants.{Ask, Reply, Withdraw, Got, Turn}
use Rattle.cmh_model3.specs.Lists.{in_list, is_before}
use Rattle.cmh_model3.specs.Entries.{WorldEvent}
use Rattle.cmh_model3.specs.State.{counts, State, waits_for}
use Rattle.cmh_model3.specs.Rules.{Accepts, Sends, changed, clock_after}
use Rattle.cmh_model3.specs.Journals.{frames_to}
use Rattle.cmh_model3.specs.Waits.{begins, ends}
use Rattle.cmh_model3.specs.Stops.{is_within}
use Rattle.cmh_model3.specs.Frames.{bit, count, is_reply}
use Rattle.cmh_model3.proofs.World.{is_request, World, Step, got_on, clock_of}
use Rattle.cmh_model3.proofs.Invariants.{SingleWaits, IsLive, ProbesStay, LocalPathsSettled}
use Rattle.std.specs.Prelude.{ltb}
use Rattle.cmh_model3.proofs.Counts.{count-append, both_yes}
use Rattle.cmh_model3.proofs.Moves.{far_to, reply_owed}
use Rattle.cmh_model3.proofs.Kept.{link_count, sent_yes, got_yes, got_no, here, single_waits_kept}
use Rattle.cmh_model3.proofs.Settled.{ends_home, within_low, clock_up, settled_path}

-- the reply that ends a wait goes to its asker
pub reply_goes : (home : ℕ → ℕ) (s : ℕ) (v : State) (sent : List (ℕ × Message)) (d : Option ℕ) (j k : ℕ) (ev : Event) → Accepts home s v ev → Sends home s v ev sent d → home k ≡ s → home j ≢ s
    → ends j k ev ≡ true → count (is_reply k j) (frames_to (home j) sent) ≡ 1
reply_goes home s v sent d j k (Ask i ks) acc out at far h = absurd (true≢false (sym h))
reply_goes home s v sent d j k (Reply x i) acc out at far h =
    let both = and_parts (x == k) (i == j) h in
    let ek = eqb-true x k both.0 in let ej = eqb-true i j both.1 in
    let move = far_to home s v sent d j k (Reply x i) acc out at far in
    let gone : bit ((changed home s v (Reply x i)).owed k j) ≡ 0 = ap (λ r. bit (r k j)) (reply_owed home s v x i) ∙ ap (λ z. bit (if z then false else v.owed k j)) (both_yes k j x i (sym ek) (sym ej)) in
    let was : bit (v.owed k j) ≡ 1 = ap bit (ap (λ q. v.owed q j) (sym ek) ∙ ap (v.owed x) (sym ej) ∙ acc.2) in
    omega (arith, move, gone, was)
reply_goes home s v sent d j k (Withdraw i ks) acc out at far h = absurd (far (sym (ap home (eqb-true i j (and_parts (i == j) (in_list ks k) h).0)) ∙ acc.0))
reply_goes home s v sent d j k (Turn q1) acc out at far h = absurd (true≢false (sym h))
reply_goes home s v sent d j k (Got a c f) acc out at far h = absurd (true≢false (sym h))

module _ (home : ℕ → ℕ) (w : World) (e : WorldEvent) (n : World) (inv : SingleWaits home w) (st : Step home w e n) (m j k : ℕ) (apart : home j ≢ home k) where
  -- a wait at the stop stays where no event within the stop ends it
  early_stays : (is_within m (clock_after (w.value e.site).clock e.entry.event) e.entry.event ≡ true → ends j k e.entry.event ≡ false) → w.early m j k ≡ true → n.early m j k ≡ true
  early_stays h o = st.earlier m j k ∙ go (is_within m (clock_after (w.value e.site).clock e.entry.event) e.entry.event) (begins j k e.entry.event) (ends j k e.entry.event) (w.early m j k) h o
    where
      go : (z b d o : Bool) → (z ≡ true → d ≡ false) → o ≡ true → (if z then b || (not d && o) else o) ≡ true
      go false b d o h g = g
      go true true d o h g = refl
      go true false d o h g = ap (λ q. not q && o) (h refl) ∙ g

  live_stays : (ahead : List Message) (p : Message) (behind : List Message) → n.queue (home j) (home k) ≡ ahead ++ p ∷ behind → m ≤ clock_of home w j
      → (IsLive home w j k (got_on (home j) (home k) e ++ ahead) → w.early m j k ≡ true) → IsLive home n j k ahead → n.early m j k ≡ true
  live_stays ahead p behind parts low old live =
      let joined = count-append (is_request j k) (got_on (home j) (home k) e) ahead in
      elim (cases_eq e.site (home k)) [
        | inl h ↦
            let not_j : e.site ≢ home j = λ g. apart (sym g ∙ h) in
            let before : bit ((w.value e.site).owed k j) ≡ bit ((w.value (home k)).owed k j) = ap (λ z. bit ((w.value z).owed k j)) h in
            let now : bit ((n.value (home k)).owed k j) ≡ bit ((changed home e.site (w.value e.site) e.entry.event).owed k j) = ap (λ v. bit (v.owed k j)) (here home w e n inv st (home k) h) in
            let move = far_to home e.site (w.value e.site) e.entry.sent e.entry.declared j k e.entry.event st.accepted st.sends (sym h) (λ g. not_j (sym g)) in
            let g1 = got_yes home w e n inv st (is_request j k) (home j) (home k) h in
            let was : IsLive home w j k (got_on (home j) (home k) e ++ ahead) = omega (arith, joined, before, now, move, g1, live) in
            let one = (single_waits_kept home w e n inv st).far j k apart in
            let place = one.0 in let most = one.1 in
            let all = ap (count (is_request j k)) parts ∙ count-append (is_request j k) ahead (p ∷ behind) in
            let back = link_count home w e n inv st (is_reply k j) (home k) (home j) in
            let s2 = sent_yes home w e n inv st (is_reply k j) (home k) (home j) h in
            let g2 = got_no home w e n inv st (is_reply k j) (home k) (home j) not_j in
            early_stays (λ inside. false_from_ne_true _ (λ ended.
            let goes = reply_goes home e.site (w.value e.site) e.entry.sent e.entry.declared j k e.entry.event st.accepted st.sends (sym h) (λ g. not_j (sym g)) ended in
            absurd (omega (arith, live, place, most, all, back, s2, g2, goes)))) (old was)
        | inr not_k ↦
            let owed = ap (λ v. bit (v.owed k j)) (st.elsewhere (home k) (λ g. not_k (sym g))) in
            let was : IsLive home w j k (got_on (home j) (home k) e ++ ahead) = omega (arith, joined, owed, live) in
            early_stays (λ inside. false_from_ne_true _ (λ ended. elim (ends_home home e.site (w.value e.site) e.entry.event j k st.accepted ended) [
              | inl g ↦
                  let c = ap (λ z. (w.value z).clock) g in
                  let ltb = within_low m (w.value e.site).clock e.entry.event inside in
                  absurd (omega (arith, c, ltb, low))
              | inr g ↦ not_k (sym g)
            ])) (old was)
      ]

pub probes_stay : ProbesStay
probes_stay home w e n inv st i m j k ahead p behind apart parts h =
    let low = h.0 in
    let up = clock_up home w e n st (home j) in
    (omega (arith, low, up), (h.1.0, settled_path home w e n st m i j h.1.0 h.1.1), live_stays home w e n inv st m j k apart ahead p behind parts h.0 h.2)

-- a wait that counts is of no greater stamp
pub counts_since : (v : State) (m i x y : ℕ) → counts v m i x y ≡ true → (waits_for v x y ≡ true) × (v.since x y ≤ m)
counts_since v m i x y h =
    let parts = and_parts (waits_for v x y) (not (is_before m i (v.since x y) x)) h in (
      parts.0,
      elim (cases_lt m (v.since x y)) [
        | inl l ↦ absurd (true≢false (sym parts.1 ∙ ap (λ z. not (z || ((m == v.since x y) && ltb i x))) (lt-ltb m (v.since x y) l)))
        | inr ge ↦ ge
      ],
    )

pub local_paths_settled : LocalPathsSettled
local_paths_settled home w agree fit s m i p [] q clock at h = (h, sym (ap home h) ∙ at)
local_paths_settled home w agree fit s m i p (x ∷ xs) q clock at h =
    let edge = counts_since (w.value s) m i p x h.0 in
    let more = local_paths_settled home w agree fit s m i x xs q clock h.1 h.2 in
    let waits : w.wait p x ≡ true = agree.own p x (at ∙ sym h.1) (subst (λ z. waits_for (w.value z) p x ≡ true) (sym at) edge.0) in
    let early : w.early m p x ≡ true = fit.stands p x m waits (subst (λ z. waits_for (w.value z) p x ≡ true) (sym at) edge.0) (subst (λ z. (w.value z).since p x ≤ m) (sym at) edge.1) in
    (((early, subst (λ z. m ≤ (w.value z).clock) (sym at) clock, subst (λ z. m ≤ (w.value z).clock) (sym h.1) clock), more.0), more.1)

-- What is under way is accepted, and each wait is kept.
use Rattle.std.proofs.Common.{◌≡◌, ◌≢◌, ◌⊎◌, ℕ, ◌+◌, ◌≤◌, max, Bool, true, false, ◌&&◌, ◌||◌, List, [], ◌∷◌, ◌++◌, ◌==◌, if◌then◌else◌, refl, sym, ap, ◌∙◌, subst, inl, inr, Option, None, MatchBool, true≢false, append-nil, append_assoc, arith}
use Rattle.std.specs.List.{AllByRecursion}
use Rattle.std.proofs.lemmas.Bool.{cases_eq, eq-eqb, ne_eqb}
use Rattle.cmh_model3.specs.declared.frame.Frame.{Frame}
use Rattle.cmh_model3.specs.declared.frame.Frame.TheVariants.{Request, Reply as Reply_frame, Withdraw as Withdraw_frame, Probe}
use Rattle.cmh_model3.specs.declared.frame.Message.{Message}
use Rattle.cmh_model3.specs.declared.event.Event.{Event}
use Rattle.cmh_model3.specs.declared.event.Event.TheVariants.{Ask, Reply, Withdraw, Got, Turn}
use Rattle.cmh_model3.specs.Entries.{WorldEvent}
use Rattle.cmh_model3.specs.State.{passes, State, waits_for}
use Rattle.cmh_model3.specs.Paths.{ReachesLocally, DependsOnItself}
use Rattle.cmh_model3.specs.Rules.{Accepts, Sends, changed, requests, withdraws, probe_acts, DeclaresOrProbes}
use Rattle.cmh_model3.specs.Journals.{frames_to}
use Rattle.cmh_model3.specs.Runs.{IsRun, under_way, state_of}
use Rattle.cmh_model3.specs.Frames.{bit, count, is_reply}
use Rattle.cmh_model3.specs.Laws.{DeliveriesAccepted, EachWait}
use Rattle.cmh_model3.proofs.World.{is_request, World, Step, sent_on, got_on}
use Rattle.cmh_model3.proofs.Invariants.{SingleWaits, FrameAt}
use Rattle.cmh_model3.proofs.Counts.{bit_zero, both_yes}
use Rattle.cmh_model3.proofs.Lights.{path_home}
use Rattle.cmh_model3.proofs.Agreed.{waits_agree}
use Rattle.cmh_model3.proofs.Runs.{world_of, one_step, holds_of_run}
use Rattle.cmh_model3.proofs.Silent.{known_of_run}
use Rattle.cmh_model3.proofs.Sent.{IsProbe, each_probe}

abbrev Addressed : (ℕ → ℕ) → ℕ → ℕ → List Message → Type 0
Addressed home a b ms = AllByRecursion (λ (m : Message). (a ≢ b) × FrameAt home a b m.frame) ms

abbrev SentRight : (ℕ → ℕ) → ℕ → List (ℕ × Message) → Type 0
SentRight home s sent = AllByRecursion (λ (x : ℕ × Message). (s ≢ x.0) × FrameAt home s x.0 x.1.frame) sent

all_append : (P : Message → Type 0) (xs ys : List Message) → AllByRecursion P xs → AllByRecursion P ys → AllByRecursion P (xs ++ ys)
all_append P [] ys h g = g
all_append P (x ∷ xs) ys h g = (h.0, all_append P xs ys h.1 g)

all_rest : (P : Message → Type 0) (xs ys : List Message) → AllByRecursion P (xs ++ ys) → AllByRecursion P ys
all_rest P [] ys h = h
all_rest P (x ∷ xs) ys h = all_rest P xs ys h.1

elsewhere : (x s : ℕ) → (x == s) ≡ false → s ≢ x
elsewhere x s h e = true≢false (sym (eq-eqb x s (sym e)) ∙ h)

module _ (home : ℕ → ℕ) (s : ℕ) (v : State) where
  right_append : (xs ys : List (ℕ × Message)) → SentRight home s xs → SentRight home s ys → SentRight home s (xs ++ ys)
  right_append [] ys h g = g
  right_append (x ∷ xs) ys h g = (h.0, right_append xs ys h.1 g)

  requests_right : (c j : ℕ) (ks : List ℕ) → home j ≡ s → SentRight home s (requests home s c j ks)
  requests_right c j [] at = tt
  requests_right c j (q ∷ ks) at = go (home q == s) refl (requests_right c j ks at)
    where
      go : (z : Bool) → (home q == s) ≡ z → SentRight home s (requests home s c j ks) → SentRight home s (if z then requests home s c j ks else (home q, record { clock = c; frame = Request j q }) ∷ requests home s c j ks)
      go true h g = g
      go false h g = ((elsewhere (home q) s h, (at, refl)), g)

  withdraws_right : (c j : ℕ) (ks : List ℕ) → home j ≡ s → SentRight home s (withdraws home s c j ks)
  withdraws_right c j [] at = tt
  withdraws_right c j (q ∷ ks) at = go (home q == s) refl (withdraws_right c j ks at)
    where
      go : (z : Bool) → (home q == s) ≡ z → SentRight home s (withdraws home s c j ks) → SentRight home s (if z then withdraws home s c j ks else (home q, record { clock = c; frame = Withdraw_frame j q }) ∷ withdraws home s c j ks)
      go true h g = g
      go false h g = ((elsewhere (home q) s h, (at, refl)), g)

  none_right : (xs : List (ℕ × Message)) → xs ≡ [] → SentRight home s xs
  none_right xs h = subst (SentRight home s) (sym h) tt

  outcome_right : (D : Type 0) (u : State) (c i m p : ℕ) (sent : List (ℕ × Message)) (d : Option ℕ) → home p ≡ s → DeclaresOrProbes home D s u c i m p sent d → SentRight home s sent
  outcome_right D u c i m p sent d at (inl h) = none_right sent h.1
  outcome_right D u c i m p sent d at (inr h) = go sent (each_probe home s u c i m p sent h.1).each
    where
      go : (xs : List (ℕ × Message)) → AllByRecursion (IsProbe home s u c i m p) xs → SentRight home s xs
      go [] g = tt
      go (x ∷ xs) g =
          let at_j = path_home home s u m i p g.0.5.0 g.0.0 at g.0.5.1 in
          (((λ e. g.0.3 (sym g.0.2 ∙ sym e)), subst (λ (z : Message). FrameAt home s x.0 z.frame) (sym g.0.6) (at_j, sym g.0.2)), go xs g.1)

  sent_right : (ev : Event) (sent : List (ℕ × Message)) (d : Option ℕ) → Accepts home s v ev → Sends home s v ev sent d → SentRight home s sent
  sent_right (Ask j ks) sent d acc out = subst (SentRight home s) (sym out.1) (right_append (requests home s (v.clock + 1) j ks) out.0 (requests_right (v.clock + 1) j ks acc.0)
      (outcome_right (DependsOnItself home s (changed home s v (Ask j ks)) (v.clock + 1) j) (changed home s v (Ask j ks)) (v.clock + 1) j (v.clock + 1) j out.0 d acc.0 out.2))
  sent_right (Reply k j) sent d acc out = subst (SentRight home s) (sym out.0) (go (home j == s) refl)
    where
      go : (z : Bool) → (home j == s) ≡ z → SentRight home s (if z then [] else (home j, record { clock = v.clock; frame = Reply_frame k j }) ∷ [])
      go true h = tt
      go false h = ((elsewhere (home j) s h, (acc.0, refl)), tt)
  sent_right (Withdraw j ks) sent d acc out = subst (SentRight home s) (sym out.0) (withdraws_right v.clock j ks acc.0)
  sent_right (Turn q1) sent d acc out = none_right sent out.0
  sent_right (Got a c (Request j k)) sent d acc out = none_right sent out.0
  sent_right (Got a c (Reply_frame k j)) sent d acc out = none_right sent out.0
  sent_right (Got a c (Withdraw_frame j k)) sent d acc out = subst (SentRight home s) (sym out.0) (go (v.owed k j))
    where
      go : (z : Bool) → SentRight home s (if z then (a, record { clock = max v.clock c; frame = Reply_frame k j }) ∷ [] else [])
      go true = (((λ e. acc.0 (sym e)), (acc.2, acc.1)), tt)
      go false = tt
  sent_right (Got a c (Probe i m j k)) sent d acc out = go (probe_acts v i m j k) out
    where
      go : (z : Bool) → MatchBool z (DeclaresOrProbes home (ReachesLocally home s v m i k i × (passes v m i i ≡ true)) s v (max v.clock c) i m k sent d) ((sent ≡ []) × (d ≡ None)) → SentRight home s sent
      go true g = outcome_right (ReachesLocally home s v m i k i × (passes v m i i ≡ true)) v (max v.clock c) i m k sent d acc.2 g
      go false g = none_right sent g.0

right_to : (home : ℕ → ℕ) (s b : ℕ) (sent : List (ℕ × Message)) → SentRight home s sent → Addressed home s b (frames_to b sent)
right_to home s b [] h = tt
right_to home s b (x ∷ xs) h = elim (cases_eq x.0 b) [
  | inl e ↦ subst (λ z. Addressed home s b (if z then x.1 ∷ frames_to b xs else frames_to b xs)) (sym (eq-eqb x.0 b e)) (subst (λ q. (s ≢ q) × FrameAt home s q x.1.frame) e h.0, right_to home s b xs h.1)
  | inr n ↦ subst (λ z. Addressed home s b (if z then x.1 ∷ frames_to b xs else frames_to b xs)) (sym (ne_eqb x.0 b n)) (right_to home s b xs h.1)
]

addressed_kept : (home : ℕ → ℕ) (w : World) (e : WorldEvent) (n : World) → Step home w e n → (a b : ℕ) → Addressed home a b (w.queue a b) → Addressed home a b (n.queue a b)
addressed_kept home w e n st a b h = all_rest (λ (m : Message). (a ≢ b) × FrameAt home a b m.frame) (got_on a b e) (n.queue a b)
    (subst (Addressed home a b) (st.links a b) (all_append (λ (m : Message). (a ≢ b) × FrameAt home a b m.frame) (w.queue a b) (sent_on a b e) h (sent (cases_eq e.site a))))
  where
    sent : (e.site ≡ a) ⊎ (e.site ≢ a) → Addressed home a b (sent_on a b e)
    sent (inl at) = subst (λ z. Addressed home a b (if z then frames_to b e.entry.sent else [])) (sym (eq-eqb e.site a at))
        (subst (λ z. Addressed home z b (frames_to b e.entry.sent)) at (right_to home e.site b e.entry.sent (sent_right home e.site (w.value e.site) e.entry.event e.entry.sent e.entry.declared st.accepted st.sends)))
    sent (inr far) = subst (λ z. Addressed home a b (if z then frames_to b e.entry.sent else [])) (sym (ne_eqb e.site a far)) tt

addressed_on : (home : ℕ → ℕ) (before rest : List WorldEvent) → IsRun home (before ++ rest) → ((a b : ℕ) → Addressed home a b (under_way a b before)) → (a b : ℕ) → Addressed home a b (under_way a b (before ++ rest))
addressed_on home before [] run h a b = subst (λ z. Addressed home a b (under_way a b z)) (sym (append-nil before)) (h a b)
addressed_on home before (e ∷ rest) run h a b =
    let same = append_assoc before (e ∷ []) rest in
    subst (λ z. Addressed home a b (under_way a b z)) same (addressed_on home (before ++ e ∷ []) rest (subst (IsRun home) (sym same) run)
    (λ x y. addressed_kept home (world_of home before) e (world_of home (before ++ e ∷ [])) (one_step home before e rest run) x y (h x y)) a b)

pub deliveries_accepted : DeliveriesAccepted
deliveries_accepted home events run a b m behind parts =
    let first = subst (Addressed home a b) parts (addressed_on home [] events run (λ x y. tt) a b) in
    go m.clock m.frame parts first.0.0 first.0.1
  where
    single : SingleWaits home (world_of home events)
    single = (holds_of_run home events run).single

    or_of : (x y : Bool) → 1 ≤ bit x + bit y → (x || y) ≡ true
    or_of true y h = refl
    or_of false true h = refl
    or_of false false h = absurd (omega (arith, h))

    go : (c : ℕ) (f : Frame) → under_way a b events ≡ record { clock = c; frame = f } ∷ behind → a ≢ b → FrameAt home a b f → Accepts home b (state_of home b events) (Got a c f)
    go c (Request j k) head apart at =
        let far : home j ≢ home k = λ e. apart (sym at.0 ∙ e ∙ at.1) in
        let one = (single.far j k far).0 in
        let most = (single.far j k far).1 in
        let queue = ap (count (is_request j k)) (ap (λ z. under_way z (home k) events) at.0 ∙ ap (λ z. under_way a z events) at.1 ∙ head) in
        let hit : bit ((j == j) && (k == k)) ≡ 1 = ap bit (both_yes j k j k refl refl) in
        let none : bit ((state_of home (home k) events).owed k j) ≡ 0 = omega (arith, one, most, queue, hit) in
        (apart, at.0, at.1, ap (λ z. (state_of home z events).owed k j) (sym at.1) ∙ bit_zero _ none)
    go c (Reply_frame k j) head apart at =
        let far : home j ≢ home k = λ e. apart (sym at.0 ∙ sym e ∙ at.1) in
        let one = (single.far j k far).0 in
        let queue = ap (count (is_reply k j)) (ap (λ z. under_way z (home j) events) at.0 ∙ ap (λ z. under_way a z events) at.1 ∙ head) in
        let hit : bit ((k == k) && (j == j)) ≡ 1 = ap bit (both_yes k j k j refl refl) in
        let some : 1 ≤ bit (waits_for (state_of home (home j) events) j k) + bit ((state_of home (home j) events).leaving j k) = omega (arith, one, queue, hit) in
        ((λ e. apart e), at.0, at.1, ap (λ z. waits_for (state_of home z events) j k || (state_of home z events).leaving j k) (sym at.1) ∙ or_of _ _ some)
    go c (Withdraw_frame j k) head apart at = (apart, at.0, at.1)
    go c (Probe i n j k) head apart at = (apart, at.0, at.1)

pub each_wait : EachWait
each_wait home events run j k =
    let all = known_of_run home events run in
    let agree = waits_agree home (world_of home events) all.holds.agrees in (
      λ h. (all.marks.back j k h, λ apart. let one = all.holds.agrees.far j k apart (all.marks.back j k h) in let b = ap bit h in omega (arith, one, b)),
      λ kept. elim (cases_eq (home j) (home k)) [ inl same ↦ agree.own j k same kept.0 | inr apart ↦ agree.far j k apart kept.0 (kept.1 apart) ],
    )

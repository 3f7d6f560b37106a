-- What holds at every moment, and what a declaration finds.
use Rattle.std.proofs.Common.{◌≡◌, ◌≢◌, ℕ, ◌+◌, ◌≤◌, max, Bool, true, false, not, ◌&&◌, ◌||◌, List, [], ◌∷◌, ◌++◌, ◌==◌, if◌then◌else◌, refl, sym, ap, ◌∙◌, subst, inl, inr, Option, None, Some, MatchBool, append-nil, append_assoc, arith}
use Rattle.std.specs.List.{AllByRecursion}
use Rattle.std.proofs.lemmas.Bool.{cases_eq, eq-eqb, ne_eqb, and_parts}
use Rattle.cmh_model3.specs.declared.frame.Frame.TheVariants.{Request, Reply as Reply_frame, Withdraw as Withdraw_frame, Probe}
use Rattle.cmh_model3.specs.declared.frame.Message.{Message}
use Rattle.cmh_model3.specs.declared.event.Event.{Event}
use Rattle.cmh_model3.specs.declared.event.Event.TheVariants.{Ask, Reply, Withdraw, Got, Turn}
use Rattle.cmh_model3.specs.Lists.{set_at}
use Rattle.cmh_model3.specs.Entries.{WorldEvent}
use Rattle.cmh_model3.specs.State.{State, waits_for, passes}
use Rattle.cmh_model3.specs.Paths.{ReachesLocally, DependsOnItself}
use Rattle.cmh_model3.specs.Rules.{Accepts, Sends, changed, requests, withdraws, probe_acts, clock_after, DeclaresOrProbes}
use Rattle.cmh_model3.specs.Journals.{frames_to, message_from}
use Rattle.cmh_model3.specs.Waits.{begins, ends}
use Rattle.cmh_model3.specs.Stops.{is_within, declared_at}
use Rattle.cmh_model3.specs.Frames.{bit, count, is_reply}
use Rattle.cmh_model3.proofs.World.{is_request, World, Step, sent_on, got_on, clock_of}
use Rattle.cmh_model3.proofs.Invariants.{SingleWaits, StampsFit, Agrees, ProbeFits, ProbeAt, Holds, StepKeepsAll, StepDeclares, SettledCycle, SettledPath, IsSettled, FrameFits, WaitsAgree}
use Rattle.std.specs.Prelude.{ltb}
use Rattle.cmh_model3.proofs.Counts.{count-append}
use Rattle.cmh_model3.proofs.Moves.{got_probe}
use Rattle.cmh_model3.proofs.Kept.{single_waits_kept}
use Rattle.cmh_model3.proofs.Settled.{stamps_kept, clock_up, settled_path, stamps_move}
use Rattle.cmh_model3.proofs.Probes.{probes_stay, local_paths_settled}
use Rattle.cmh_model3.proofs.Outcomes.{outcomes_fit, declared_on_settled_cycle, path_join, path_same}
use Rattle.cmh_model3.proofs.Agreed.{split_append, agrees_kept, waits_agree}

module _ (home : ℕ → ℕ) (w : World) (e : WorldEvent) (n : World) (old : Holds home w) (st : Step home w e n) where
  single : SingleWaits home n
  single = single_waits_kept home w e n old.single st

  stamps : StampsFit home n
  stamps = stamps_kept home w e n old.stamps st

  agrees : Agrees home n
  agrees = agrees_kept home w e n old.single st old.agrees

  fit : WaitsAgree home n
  fit = waits_agree home n agrees

  clock_now : (n.value e.site).clock ≡ clock_after (w.value e.site).clock e.entry.event
  clock_now = ap (λ (v : State). v.clock) st.here

  stamp_now : (x : ℕ) → (n.value e.site).stamp x ≡ (changed home e.site (w.value e.site) e.entry.event).stamp x
  stamp_now x = ap (λ (v : State). v.stamp x) st.here

  waits_now : (n.value e.site).waits ≡ (changed home e.site (w.value e.site) e.entry.event).waits
  waits_now = ap (λ (v : State). v.waits) st.here

  -- what a probe that has just come and acts finds
  abbrev pub Arrived : ℕ → ℕ → ℕ → ℕ → ℕ → Type 0
  Arrived c i m j k =
      (home k ≡ e.site) × (m ≤ (n.value e.site).clock) × (m ≤ (n.value (home i)).stamp i)
      × (members : List ℕ) × SettledPath home n m i members j × IsSettled home n m j k

  pub arrived : (a c i m j k : ℕ) → e.entry.event ≡ Got a c (Probe i m j k) → Accepts home e.site (w.value e.site) (Got a c (Probe i m j k)) → probe_acts (w.value e.site) i m j k ≡ true → Arrived c i m j k
  arrived a c i m j k ev acc acts =
      let parts = and_parts (passes (w.value e.site) m i k) ((w.value e.site).owed k j)
      (and_parts (passes (w.value e.site) m i k && (w.value e.site).owed k j) (ltb ((w.value e.site).marks k i) m) acts).0 in
      let msg : Message = record { clock = c; frame = Probe i m j k } in
      let got : got_on a e.site e ≡ msg ∷ [] = ap (λ z. if z then message_from a e.entry.event else []) (eq-eqb e.site e.site refl) ∙ ap (message_from a) ev ∙ ap (λ z. if z then msg ∷ [] else []) (eq-eqb a a refl) in
      let none : sent_on a e.site e ≡ [] = ap (λ z. if z then frames_to e.site e.entry.sent else []) (ne_eqb e.site a (λ g. acc.0 (sym g))) in
      let queue : w.queue a e.site ≡ [] ++ msg ∷ n.queue a e.site = sym (append-nil (w.queue a e.site)) ∙ ap (λ l. w.queue a e.site ++ l) (sym none) ∙ st.links a e.site ∙ ap (λ l. l ++ n.queue a e.site) got in
      let at = old.probes a e.site c i m j k [] (n.queue a e.site) queue in
      let fits = at.5 in
      let low_j = fits.0 in
      let up_j = clock_up home w e n st (home j) in
      let clock : (n.value e.site).clock ≡ max (w.value e.site).clock c = clock_now ∙ ap (clock_after (w.value e.site).clock) ev in
      let in_frame = at.3 in
      let low_i = at.4 in
      let up_i = (stamps_move home w e n st old.stamps i).0 in
      let owed : bit ((w.value (home k)).owed k j) ≡ 1 = ap (λ z. bit ((w.value z).owed k j)) acc.2 ∙ ap bit parts.1 in
      let was : w.early m j k ≡ true = fits.2 (omega (arith, owed)) in
      let early : n.early m j k ≡ true = st.earlier m j k ∙ stays (is_within m (clock_after (w.value e.site).clock e.entry.event) e.entry.event) (begins j k e.entry.event) (ends j k e.entry.event) (w.early m j k) (ap (ends j k) ev) was in
      let at_k : clock_of home n k ≡ (n.value e.site).clock = ap (λ z. (n.value z).clock) acc.2 in (
        acc.2,
        omega (arith, clock, in_frame),
        omega (arith, low_i, up_i),
        fits.1.0,
        settled_path home w e n st m i j fits.1.0 fits.1.1,
        (early, omega (arith, low_j, up_j), omega (arith, at_k, clock, in_frame)),
      )
    where
      stays : (z b d o : Bool) → d ≡ false → o ≡ true → (if z then b || (not d && o) else o) ≡ true
      stays false b d o h g = g
      stays true true d o h g = refl
      stays true false d o h g = ap (λ q. not q && o) h ∙ g

  abbrev through : (c i m j k : ℕ) → Arrived c i m j k → (members : List ℕ) × SettledPath home n m i members k
  through c i m j k r = (r.3 ++ (k ∷ []), path_join (IsSettled home n m) i r.3 j (k ∷ []) k r.4 (r.5, refl))

  -- an asker's own ask at the stop of its new stamp
  pub asked : (i : ℕ) (ks : List ℕ) → e.entry.event ≡ Ask i ks → Accepts home e.site (w.value e.site) (Ask i ks)
      → ((w.value e.site).clock + 1 ≤ (n.value e.site).clock) × ((n.value e.site).stamp i ≡ (w.value e.site).clock + 1) × ((n.value (home i)).stamp i ≡ (w.value e.site).clock + 1)
  asked i ks ev acc =
      let clock : (n.value e.site).clock ≡ (w.value e.site).clock + 1 = clock_now ∙ ap (clock_after (w.value e.site).clock) ev in
      let stamp : (n.value e.site).stamp i ≡ (w.value e.site).clock + 1 =
      stamp_now i ∙ ap (λ z. (changed home e.site (w.value e.site) z).stamp i) ev ∙ ap (λ z. if z then (w.value e.site).clock + 1 else (w.value e.site).stamp i) (eq-eqb i i refl) in
      (omega (arith, clock), stamp, ap (λ z. (n.value z).stamp i) acc.0 ∙ stamp)

  -- ---- what is sent is fit
  abbrev AllFit : List (ℕ × Message) → Type 0
  AllFit sent = AllByRecursion (λ (x : ℕ × Message). FrameFits home n e.site x.0 x.1.clock x.1.frame) sent

  fit_append : (xs ys : List (ℕ × Message)) → AllFit xs → AllFit ys → AllFit (xs ++ ys)
  fit_append [] ys h g = g
  fit_append (x ∷ xs) ys h g = (h.0, fit_append xs ys h.1 g)

  fit_requests : (c j : ℕ) (ks : List ℕ) → AllFit (requests home e.site c j ks)
  fit_requests c j [] = tt
  fit_requests c j (q ∷ ks) = go (home q == e.site) (fit_requests c j ks)
    where
      go : (z : Bool) → AllFit (requests home e.site c j ks) → AllFit (if z then requests home e.site c j ks else (home q, record { clock = c; frame = Request j q }) ∷ requests home e.site c j ks)
      go true g = g
      go false g = (tt, g)

  fit_withdraws : (c j : ℕ) (ks : List ℕ) → AllFit (withdraws home e.site c j ks)
  fit_withdraws c j [] = tt
  fit_withdraws c j (q ∷ ks) = go (home q == e.site) (fit_withdraws c j ks)
    where
      go : (z : Bool) → AllFit (withdraws home e.site c j ks) → AllFit (if z then withdraws home e.site c j ks else (home q, record { clock = c; frame = Withdraw_frame j q }) ∷ withdraws home e.site c j ks)
      go true g = g
      go false g = (tt, g)

  none_fit : (xs : List (ℕ × Message)) → xs ≡ [] → AllFit xs
  none_fit xs h = subst AllFit (sym h) tt

  outcome_fit : (D : Type 0) (v : State) (c i m p : ℕ) (sent : List (ℕ × Message)) (d : Option ℕ) → DeclaresOrProbes home D e.site v c i m p sent d
      → v.waits ≡ (n.value e.site).waits → v.since ≡ (n.value e.site).since → m ≤ c → m ≤ (n.value e.site).clock → m ≤ (n.value (home i)).stamp i
      → home p ≡ e.site → ((members : List ℕ) × SettledPath home n m i members p) → AllFit sent
  outcome_fit D v c i m p sent d (inl h) a1 a2 a3 a4 a5 a6 a7 = none_fit sent h.1
  outcome_fit D v c i m p sent d (inr h) a1 a2 a3 a4 a5 a6 a7 = outcomes_fit home n fit stamps e.site v c i m p sent a1 a2 a3 a4 a5 a6 a7 h.1

  sent_fit : (sent : List (ℕ × Message)) (d : Option ℕ) (ev : Event) → e.entry.event ≡ ev → Accepts home e.site (w.value e.site) ev → Sends home e.site (w.value e.site) ev sent d → AllFit sent
  sent_fit sent d (Ask i ks) q acc out =
      let own = asked i ks q acc in
      let s1 = own.1 in let s2 = own.2 in
      subst AllFit (sym out.1) (fit_append (requests home e.site ((w.value e.site).clock + 1) i ks) out.0 (fit_requests ((w.value e.site).clock + 1) i ks)
      (outcome_fit _ (changed home e.site (w.value e.site) (Ask i ks)) ((w.value e.site).clock + 1) i ((w.value e.site).clock + 1) i out.0 d out.2
      (sym (waits_now ∙ ap (λ z. (changed home e.site (w.value e.site) z).waits) q))
      (sym (ap (λ (v : State). v.since) st.here ∙ ap (λ z. (changed home e.site (w.value e.site) z).since) q))
      (omega arith) own.0 (omega (arith, s2)) acc.0 ([], refl)))
  sent_fit sent d (Reply h i) q acc out = subst AllFit (sym out.0) (go (home i == e.site))
    where
      go : (z : Bool) → AllFit (if z then [] else (home i, record { clock = (w.value e.site).clock; frame = Reply_frame h i }) ∷ [])
      go true = tt
      go false = (tt, tt)
  sent_fit sent d (Withdraw i ks) q acc out = subst AllFit (sym out.0) (fit_withdraws (w.value e.site).clock i ks)
  sent_fit sent d (Turn q1) q acc out = none_fit sent out.0
  sent_fit sent d (Got a c (Request x y)) q acc out = none_fit sent out.0
  sent_fit sent d (Got a c (Reply_frame x y)) q acc out = none_fit sent out.0
  sent_fit sent d (Got a c (Withdraw_frame x y)) q acc out = subst AllFit (sym out.0) (go ((w.value e.site).owed y x))
    where
      go : (z : Bool) → AllFit (if z then (a, record { clock = max (w.value e.site).clock c; frame = Reply_frame y x }) ∷ [] else [])
      go true = (tt, tt)
      go false = tt
  sent_fit sent d (Got a c (Probe i m j k)) q acc out = go (probe_acts (w.value e.site) i m j k) refl out
    where
      go : (z : Bool) → probe_acts (w.value e.site) i m j k ≡ z
          → MatchBool z (DeclaresOrProbes home (ReachesLocally home e.site (w.value e.site) m i k i × (passes (w.value e.site) m i i ≡ true)) e.site (w.value e.site) (max (w.value e.site).clock c) i m k sent d) ((sent ≡ []) × (d ≡ None)) → AllFit sent
      go false acts g = none_fit sent g.0
      go true acts g =
          let r = arrived a c i m j k q acc acts in
          let clock : (n.value e.site).clock ≡ max (w.value e.site).clock c = clock_now ∙ ap (clock_after (w.value e.site).clock) q in
          let low = r.1 in
          outcome_fit _ (w.value e.site) (max (w.value e.site).clock c) i m k sent d g
          (sym (waits_now ∙ ap (λ z. (changed home e.site (w.value e.site) z).waits) q ∙ (got_probe home e.site (w.value e.site) a c i m j k).1))
          (sym (ap (λ (v : State). v.since) st.here ∙ ap (λ z. (changed home e.site (w.value e.site) z).since) q ∙ stamps_same (probe_acts (w.value e.site) i m j k)))
          (omega (arith, clock, low)) r.1 r.2 r.0 (through c i m j k r)
        where
          stamps_same : (z : Bool) → (if z then record (w.value e.site) { marks = set_at (w.value e.site).marks k (set_at ((w.value e.site).marks k) i m) } else w.value e.site).since ≡ (w.value e.site).since
          stamps_same true = refl
          stamps_same false = refl

  -- ---- and what is declared lies on a settled cycle
  newly_is : (v : State) (x i : ℕ) → (if v.declared x then None else Some x) ≡ Some i → x ≡ i
  newly_is v x i h = go (v.declared x) h
    where
      go : (z : Bool) → (if z then None else Some x) ≡ Some i → x ≡ i
      go true g = absurd (cc g)
      go false g = cc g

  declares : (i : ℕ) (sent : List (ℕ × Message)) (d : Option ℕ) → d ≡ Some i → (ev : Event) → e.entry.event ≡ ev → Accepts home e.site (w.value e.site) ev → Sends home e.site (w.value e.site) ev sent d
      → (m : ℕ) × (m ≤ (n.value (home i)).stamp i) × SettledCycle home n m i × (m ≡ declared_at (w.value e.site).clock ev)
  declares i sent d some (Ask x ks) q acc out = go out.2
    where
      go : DeclaresOrProbes home (DependsOnItself home e.site (changed home e.site (w.value e.site) (Ask x ks)) ((w.value e.site).clock + 1) x) e.site (changed home e.site (w.value e.site) (Ask x ks)) ((w.value e.site).clock + 1) x ((w.value e.site).clock + 1) x out.0 d → (m : ℕ) × (m ≤ (n.value (home i)).stamp i) × SettledCycle home n m i × (m ≡ (w.value e.site).clock + 1)
      go (inr h) = absurd (cc (sym h.2 ∙ some))
      go (inl h) =
          let same = newly_is (changed home e.site (w.value e.site) (Ask x ks)) x i (sym h.2 ∙ some) in
          let own = asked x ks q acc in
          let s2 = own.2 in
          let m : ℕ = (w.value e.site).clock + 1 in
          let local = local_paths_settled home n fit stamps e.site m x x (h.0.0 ∷ h.0.1) x own.0 acc.0
          (path_same home e.site (changed home e.site (w.value e.site) (Ask x ks)) (n.value e.site) m x x (h.0.0 ∷ h.0.1) x
          (sym (waits_now ∙ ap (λ z. (changed home e.site (w.value e.site) z).waits) q)) (sym (ap (λ (v : State). v.since) st.here ∙ ap (λ z. (changed home e.site (w.value e.site) z).since) q)) h.0.2) in
          let found : (q : ℕ) × (q ≤ (n.value (home x)).stamp x) × SettledCycle home n q x × (q ≡ m) = (m, omega (arith, s2), (h.0.0, h.0.1, local.0.0, local.0.1), refl) in
          subst (λ z. (q : ℕ) × (q ≤ (n.value (home z)).stamp z) × SettledCycle home n q z × (q ≡ m)) same found
  declares i sent d some (Reply h x) q acc out = absurd (cc (sym out.1 ∙ some))
  declares i sent d some (Withdraw x ks) q acc out = absurd (cc (sym out.1 ∙ some))
  declares i sent d some (Turn q1) q acc out = absurd (cc (sym out.1 ∙ some))
  declares i sent d some (Got a c (Request x y)) q acc out = absurd (cc (sym out.1 ∙ some))
  declares i sent d some (Got a c (Reply_frame x y)) q acc out = absurd (cc (sym out.1 ∙ some))
  declares i sent d some (Got a c (Withdraw_frame x y)) q acc out = absurd (cc (sym out.1 ∙ some))
  declares i sent d some (Got a c (Probe x m j k)) q acc out = go (probe_acts (w.value e.site) x m j k) refl out
    where
      go : (z : Bool) → probe_acts (w.value e.site) x m j k ≡ z
          → MatchBool z (DeclaresOrProbes home (ReachesLocally home e.site (w.value e.site) m x k x × (passes (w.value e.site) m x x ≡ true)) e.site (w.value e.site) (max (w.value e.site).clock c) x m k sent d) ((sent ≡ []) × (d ≡ None)) → (q : ℕ) × (q ≤ (n.value (home i)).stamp i) × SettledCycle home n q i × (q ≡ m)
      go false acts g = absurd (cc (sym g.1 ∙ some))
      go true acts (inr h) = absurd (cc (sym h.2 ∙ some))
      go true acts (inl h) =
          let same = newly_is (w.value e.site) x i (sym h.2 ∙ some) in
          let r = arrived a c x m j k q acc acts in
          let reach = path_same home e.site (w.value e.site) (n.value e.site) m x k h.0.0.0 x
          (sym (waits_now ∙ ap (λ z. (changed home e.site (w.value e.site) z).waits) q ∙ (got_probe home e.site (w.value e.site) a c x m j k).1))
          (sym (ap (λ (v : State). v.since) st.here ∙ ap (λ z. (changed home e.site (w.value e.site) z).since) q ∙ stamps_same (probe_acts (w.value e.site) x m j k))) h.0.0.1 in
          let p = through c x m j k r in
          let circle = declared_on_settled_cycle home n fit stamps e.site x m k r.1 r.0 p.0 p.1 h.0.0.0 reach in
          let found : (q : ℕ) × (q ≤ (n.value (home x)).stamp x) × SettledCycle home n q x × (q ≡ m) = (m, r.2, opened r.3 h.0.0.0 circle, refl) in
          subst (λ z. (q : ℕ) × (q ≤ (n.value (home z)).stamp z) × SettledCycle home n q z × (q ≡ m)) same found
        where
          stamps_same : (z : Bool) → (if z then record (w.value e.site) { marks = set_at (w.value e.site).marks k (set_at ((w.value e.site).marks k) x m) } else w.value e.site).since ≡ (w.value e.site).since
          stamps_same true = refl
          stamps_same false = refl

          opened : (xs ys : List ℕ) → SettledPath home n m x ((xs ++ (k ∷ [])) ++ ys) x → SettledCycle home n m x
          opened [] ys h = (k, ys, h.0, h.1)
          opened (y ∷ xs) ys h = (y, (xs ++ (k ∷ [])) ++ ys, h.0, h.1)

  -- ---- the probes under way afterwards
  fit_in : (b : ℕ) (sent : List (ℕ × Message)) (front : List Message) (p : Message) (behind : List Message) → AllFit sent → frames_to b sent ≡ front ++ p ∷ behind → FrameFits home n e.site b p.clock p.frame
  fit_in b [] [] p behind h g = absurd (cc g)
  fit_in b [] (y ∷ front) p behind h g = absurd (cc g)
  fit_in b (x ∷ sent) front p behind h g = elim (cases_eq x.0 b) [
    | inr other ↦ fit_in b sent front p behind h.1 (sym (ap (λ z. if z then x.1 ∷ frames_to b sent else frames_to b sent) (ne_eqb x.0 b other)) ∙ g)
    | inl at ↦ first front (sym (ap (λ z. if z then x.1 ∷ frames_to b sent else frames_to b sent) (eq-eqb x.0 b at)) ∙ g) at (λ fr r. fit_in b sent fr p behind h.1 r)
  ]
    where
      first : (front : List Message) → x.1 ∷ frames_to b sent ≡ front ++ p ∷ behind → x.0 ≡ b
          → ((fr : List Message) → frames_to b sent ≡ fr ++ p ∷ behind → FrameFits home n e.site b p.clock p.frame) → FrameFits home n e.site b p.clock p.frame
      first [] same at more =
          let eq : x.1 ≡ p = cc same in
          subst (λ (z : Message). FrameFits home n e.site b z.clock z.frame) eq (subst (λ z. FrameFits home n e.site z x.1.clock x.1.frame) at h.0)
      first (y ∷ front) same at more =
          let tail : frames_to b sent ≡ front ++ p ∷ behind = cc same in
          more front tail

  probes_now : (a b c i m j k : ℕ) (ahead behind : List Message) → n.queue a b ≡ ahead ++ record { clock = c; frame = Probe i m j k } ∷ behind → ProbeAt home n a b c i m j k ahead
  probes_now a b c i m j k ahead behind parts =
      let msg : Message = record { clock = c; frame = Probe i m j k } in
      let queue : w.queue a b ++ sent_on a b e ≡ (got_on a b e ++ ahead) ++ msg ∷ behind = st.links a b ∙ ap (λ l. got_on a b e ++ l) parts ∙ sym (append_assoc (got_on a b e) ahead (msg ∷ behind)) in
      elim (split_append (w.queue a b) (sent_on a b e) (got_on a b e ++ ahead) msg behind queue) [
        | inl r ↦
            let at = old.probes a b c i m j k (got_on a b e ++ ahead) r.0 r.1 in
            let low = at.4 in
            let up = (stamps_move home w e n st old.stamps i).0 in
            let apart : home j ≢ home k = λ g. at.2 (sym at.0 ∙ g ∙ at.1) in
            let there : n.queue (home j) (home k) ≡ ahead ++ msg ∷ behind = ap (λ z. n.queue z (home k)) at.0 ∙ ap (n.queue a) at.1 ∙ parts in
            let before : ProbeFits home w i m j k (got_on (home j) (home k) e ++ ahead) =
            subst (λ z. ProbeFits home w i m j k (got_on z (home k) e ++ ahead)) (sym at.0) (subst (λ z. ProbeFits home w i m j k (got_on a z e ++ ahead)) (sym at.1) at.5) in
            (at.0, at.1, at.2, at.3, omega (arith, low, up), probes_stay home w e n old.single st i m j k ahead msg behind apart there before)
        | inr r ↦ new r.0 r.2
      ]
    where
      new : (front : List Message) → sent_on a b e ≡ front ++ record { clock = c; frame = Probe i m j k } ∷ behind → ProbeAt home n a b c i m j k ahead
      new front sent = elim (cases_eq e.site a) [
        | inr not_a ↦ absurd (nothing front (sym (ap (λ z. if z then frames_to b e.entry.sent else []) (ne_eqb e.site a not_a)) ∙ sent))
        | inl at_a ↦
            let f = fit_in b e.entry.sent front (record { clock = c; frame = Probe i m j k }) behind (sent_fit e.entry.sent e.entry.declared e.entry.event refl st.accepted st.sends) (sym (ap (λ z. if z then frames_to b e.entry.sent else []) (eq-eqb e.site a at_a)) ∙ sent) in
            let at_j : home j ≡ a = f.4 ∙ at_a in
            let apart : home j ≢ home k = λ g. f.1 (sym g ∙ f.4) in
            let clock : clock_of home n j ≡ (n.value e.site).clock = ap (λ z. (n.value z).clock) f.4 in
            let low = f.8 in (
              at_j,
              f.0,
              (λ g. apart (at_j ∙ g ∙ sym f.0)),
              f.2,
              f.3,
              (
                omega (arith, clock, low),
                f.5,
                λ live.
                    let place = single.far j k apart in
                    let one = place.0 in let most = place.1 in
                    let split = ap (count (is_request j k)) (ap (λ z. n.queue z (home k)) at_j ∙ ap (n.queue a) f.0 ∙ parts) ∙ count-append (is_request j k) ahead (record { clock = c; frame = Probe i m j k } ∷ behind) in
                    let none : count (is_reply k j) (n.queue (home k) (home j)) ≡ 0 = omega (arith, one, most, split, live) in
                    stamps.stands j k m (fit.far j k apart (subst (λ z. waits_for (n.value z) j k ≡ true) (sym f.4) f.7) none) (subst (λ z. waits_for (n.value z) j k ≡ true) (sym f.4) f.7) (subst (λ z. (n.value z).since j k ≤ m) (sym f.4) f.6),
              ),
            )
      ]
        where
          nothing : (front : List Message) → [] ≡ front ++ record { clock = c; frame = Probe i m j k } ∷ behind → ⊥
          nothing [] h = cc h
          nothing (y ∷ ys) h = cc h

pub all_kept : StepKeepsAll
all_kept home w e n old st = record {
  single = single home w e n old st;
  stamps = stamps home w e n old st;
  agrees = agrees home w e n old st;
  probes = probes_now home w e n old st;
}

pub step_declares : StepDeclares
step_declares home w e n old st i h = declares home w e n old st i e.entry.sent e.entry.declared h e.entry.event refl st.accepted st.sends

-- An event keeps what holds of a world.
use Rattle.std.proofs.Common.{◌≡◌, ◌≢◌, ◌⊎◌, ℕ, ◌+◌, Bool, true, false, not, ◌&&◌, ◌||◌, List, [], ◌∷◌, ◌++◌, if◌then◌else◌, refl, sym, ap, ◌∙◌, subst, inl, inr, true≢false, Some, arith, append_assoc, append-nil}
use Rattle.std.proofs.lemmas.Bool.{eq-eqb, ne_eqb, and_parts, or_cases, cases_eq, cases_Bool, false_from_ne_true, or_right}
use Rattle.cmh_frames.proofs.Choices.{and_yes}
use Rattle.cmh_frames.specs.declared.frame.Frame.{Frame}
use Rattle.cmh_frames.specs.declared.frame.Frame.TheVariants.{Request, Reply as Reply_frame, Probe}
use Rattle.cmh_frames.specs.declared.event.Event.{Event}
use Rattle.cmh_frames.specs.declared.event.Event.TheVariants.{Ask, Reply, Start, Got}
use Rattle.cmh_frames.specs.Entries.{WorldEvent}
use Rattle.cmh_frames.specs.Topology.{Topology, At, is_at}
use Rattle.cmh_frames.specs.Relation.{has, has_some}
use Rattle.cmh_frames.specs.Rules.{Accepts, after, probe_acts}
use Rattle.cmh_frames.specs.State.{is_blocked}
use Rattle.cmh_frames.specs.Paths.{IsPath, WaitsLocally, ReachesLocally, DependsOnItself}
use Rattle.cmh_frames.specs.Journals.{frames_to, frame_from}
use Rattle.cmh_frames.specs.Waits.{asks_for, grants}
use Rattle.cmh_frames.specs.Laws.{bit, count_of, is_request, is_reply}
use Rattle.cmh_frames.proofs.Places.{one_place, count-append, is_at-yes, frame_from-yes}
use Rattle.cmh_frames.proofs.Moves.{waits_move, owed_move, probe_waits}
use Rattle.cmh_frames.proofs.Sent.{IsOrigin, declares, requests_sent, replies_sent}
use Rattle.cmh_frames.proofs.Edges.{none_to_own, probe_sent, split_append, reach_ends, empty_has_none}
use Rattle.cmh_frames.proofs.Effects.{asks_means, grants_means, asks_or_grants, none_from_own, dependents_after}
use Rattle.cmh_frames.proofs.Bits.{bit_zero, bit_one, bit_at_most, wait_sum}
use Rattle.cmh_frames.proofs.Journals.{sent_on, got_on}
use Rattle.cmh_frames.proofs.PathLemmas.{LeadsTo, path_map, path_join, leads_on, leads_further}
use Rattle.cmh_world.proofs.World.{World, Step, link_count, Waiting, EachWait, ProbeFits, Invariant, BlockedAt, wait_blocks, path_blocks}

-- the site of an event sends what the event sends
pub sent_yes : (a b : ℕ) (e : WorldEvent) → e.site ≡ a → sent_on a b e ≡ frames_to b e.entry.sent
sent_yes a b e h = ap (λ z. if z then frames_to b e.entry.sent else []) (eq-eqb e.site a h)

-- and no other site sends anything
pub sent_no : (a b : ℕ) (e : WorldEvent) → e.site ≢ a → sent_on a b e ≡ []
sent_no a b e h = ap (λ z. if z then frames_to b e.entry.sent else []) (ne_eqb e.site a h)

-- the site of an event gets what the event gets
pub got_yes : (a b : ℕ) (e : WorldEvent) → e.site ≡ b → got_on a b e ≡ frame_from a e.entry.event
got_yes a b e h = ap (λ z. if z then frame_from a e.entry.event else []) (eq-eqb e.site b h)

-- and no other site gets anything
pub got_no : (a b : ℕ) (e : WorldEvent) → e.site ≢ b → got_on a b e ≡ []
got_no a b e h = ap (λ z. if z then frame_from a e.entry.event else []) (ne_eqb e.site b h)

module _ (t : Topology) (w : World) (e : WorldEvent) (n : World) (inv : Invariant t w) (st : Step t w e n) where
  -- nothing is under way from a site to itself
  own_link_kept : (a : ℕ) → n.queue a a ≡ []
  own_link_kept a =
      let sent : sent_on a a e ≡ [] = elim (cases_eq e.site a) [
        | inl h ↦ sent_yes a a e h ∙ subst (λ z. frames_to z e.entry.sent ≡ []) h (none_to_own t e.site (w.value e.site) e.entry.event e.entry.sent e.entry.declared st.accepted st.sends)
        | inr h ↦ sent_no a a e h
      ] in
      let got : got_on a a e ≡ [] = elim (cases_eq e.site a) [
        | inl h ↦ got_yes a a e h ∙ subst (λ z. frame_from z e.entry.event ≡ []) h (none_from_own t e.site (w.value e.site) e.entry.event st.accepted)
        | inr h ↦ got_no a a e h
      ] in
      ap (λ z. z ++ n.queue a a) (sym got) ∙ sym (st.links a a) ∙ ap (λ z. z ++ sent_on a a e) (inv.own_link a) ∙ sent

  -- the waits at the site afterwards
  waits_here : (j k : ℕ) → bit (has (n.value e.site).waits j k) ≡ bit (has (after t e.site (w.value e.site) e.entry.event e.entry.declared).waits j k)
  waits_here j k = ap (λ v. bit (has v.waits j k)) st.here

  -- what is owed at the site afterwards
  owed_here : (j k : ℕ) → bit (has (n.value e.site).owed k j) ≡ bit (has (after t e.site (w.value e.site) e.entry.event e.entry.declared).owed k j)
  owed_here j k = ap (λ v. bit (has v.owed k j)) st.here

  -- an asker waited for nobody, and who grants was waited for
  pub idle : (a b j k : ℕ) → At t j a → At t k b → asks_for j k e.entry.event ≡ true → w.wait j k ≡ false
  idle a b j k at_j at_k q =
      let means = asks_means t e.site (w.value e.site) e.entry.event j k st.accepted q in
      let none : bit (has (w.value a).waits j k) ≡ 0 = ap bit (subst (λ z. has (w.value z).waits j k ≡ false) (one_place t j e.site a means.0 at_j) means.1) in
      let both = inv.each a b j k at_j at_k in
      bit_zero (w.wait j k) (omega arith)

  -- who grants was waited for
  pub waited : (a b j k : ℕ) → At t j a → At t k b → grants k j e.entry.event ≡ true → w.wait j k ≡ true
  waited a b j k at_j at_k g =
      let means = grants_means t e.site (w.value e.site) e.entry.event j k st.accepted g in
      let one : bit (has (w.value b).owed k j) ≡ 1 = ap bit (subst (λ z. has (w.value z).owed k j ≡ true) (one_place t k e.site b means.0 at_k) means.2) in
      let both = inv.each a b j k at_j at_k in
      let most = bit_at_most (w.wait j k) in
      let is : bit (w.wait j k) ≡ 1 = omega arith in
      bit_one (w.wait j k) 0 is

  -- an ask adds the wait, and a reply takes it away
  wait_move : (a b j k : ℕ) → At t j a → At t k b → bit (n.wait j k) + bit (grants k j e.entry.event) ≡ bit (w.wait j k) + bit (asks_for j k e.entry.event)
  wait_move a b j k at_j at_k =
      wait_sum (n.wait j k) (asks_for j k e.entry.event) (grants k j e.entry.event) (w.wait j k) (st.waits j k) (idle a b j k at_j at_k) (asks_or_grants e.entry.event j k) (waited a b j k at_j at_k)

  -- no process of another site asks
  asks_far : (a j k : ℕ) → At t j a → e.site ≢ a → asks_for j k e.entry.event ≡ false
  asks_far a j k at far = false_from_ne_true _ (λ q. far (one_place t j e.site a (asks_means t e.site (w.value e.site) e.entry.event j k st.accepted q).0 at))

  -- no process of another site grants
  grants_far : (b j k : ℕ) → At t k b → e.site ≢ b → grants k j e.entry.event ≡ false
  grants_far b j k at far = false_from_ne_true _ (λ g. far (one_place t k e.site b (grants_means t e.site (w.value e.site) e.entry.event j k st.accepted g).0 at))

  -- at two other sites nothing changes
  each_far : (a b j k : ℕ) → At t j a → At t k b → e.site ≢ a → e.site ≢ b → EachWait n a b j k
  each_far a b j k at_j at_k not_a not_b =
      let both = inv.each a b j k at_j at_k in
      let move = wait_move a b j k at_j at_k in
      let no_ask = ap bit (asks_far a j k at_j not_a) in
      let no_grant = ap bit (grants_far b j k at_k not_b) in
      let waits = ap (λ v. bit (has v.waits j k)) (st.elsewhere a (λ h. not_a (sym h))) in
      let owed = ap (λ v. bit (has v.owed k j)) (st.elsewhere b (λ h. not_b (sym h))) in
      let there = link_count t w e n st (is_request j k) a b in
      let back = link_count t w e n st (is_reply k j) b a in
      let s1 = ap (count_of (is_request j k)) (sent_no a b e not_a) in
      let g1 = ap (count_of (is_request j k)) (got_no a b e not_b) in
      let s2 = ap (count_of (is_reply k j)) (sent_no b a e not_b) in
      let g2 = ap (count_of (is_reply k j)) (got_no b a e not_a) in
      (omega arith, omega arith)

  -- at the site of j
  each_from : (b j k : ℕ) → At t j e.site → At t k b → e.site ≢ b → EachWait n e.site b j k
  each_from b j k at_j at_k not_b =
      let both = inv.each e.site b j k at_j at_k in
      let move = wait_move e.site b j k at_j at_k in
      let no_grant = grants_far b j k at_k not_b in
      let no_grant_bit = ap bit no_grant in
      let no_grant_here : bit (grants k j e.entry.event && is_at t k e.site) ≡ 0 = ap (λ z. bit (z && is_at t k e.site)) no_grant in
      let waits = waits_move t e.site (w.value e.site) e.entry.event e.entry.declared j k b st.accepted at_j at_k (λ g. absurd (true≢false (sym g ∙ no_grant))) in
      let new = waits_here j k in
      let owed = ap (λ v. bit (has v.owed k j)) (st.elsewhere b (λ h. not_b (sym h))) in
      let there = link_count t w e n st (is_request j k) e.site b in
      let back = link_count t w e n st (is_reply k j) b e.site in
      let s1 = ap (count_of (is_request j k)) (sent_yes e.site b e refl) in
      let s1' = requests_sent t e.site (w.value e.site) e.entry.event e.entry.sent e.entry.declared j k b st.accepted st.sends at_k (λ h. not_b (sym h)) in
      let g1 = ap (count_of (is_request j k)) (got_no e.site b e not_b) in
      let s2 = ap (count_of (is_reply k j)) (sent_no b e.site e not_b) in
      let g2 = ap (count_of (is_reply k j)) (got_yes b e.site e refl) in
      (omega arith, omega arith)

  -- at the site of k
  each_to : (a j k : ℕ) → At t j a → At t k e.site → e.site ≢ a → EachWait n a e.site j k
  each_to a j k at_j at_k not_a =
      let both = inv.each a e.site j k at_j at_k in
      let move = wait_move a e.site j k at_j at_k in
      let no_ask = asks_far a j k at_j not_a in
      let no_ask_bit = ap bit no_ask in
      let no_ask_here : bit (asks_for j k e.entry.event && is_at t j e.site) ≡ 0 = ap (λ z. bit (z && is_at t j e.site)) no_ask in
      let owed = owed_move t e.site (w.value e.site) e.entry.event e.entry.declared j k a st.accepted at_k at_j (λ q. absurd (true≢false (sym q ∙ no_ask))) in
      let new = owed_here j k in
      let waits = ap (λ v. bit (has v.waits j k)) (st.elsewhere a (λ h. not_a (sym h))) in
      let there = link_count t w e n st (is_request j k) a e.site in
      let back = link_count t w e n st (is_reply k j) e.site a in
      let s1 = ap (count_of (is_request j k)) (sent_no a e.site e not_a) in
      let g1 = ap (count_of (is_request j k)) (got_yes a e.site e refl) in
      let s2 = ap (count_of (is_reply k j)) (sent_yes e.site a e refl) in
      let s2' = replies_sent t e.site (w.value e.site) e.entry.event e.entry.sent e.entry.declared j k a st.sends at_j (λ h. not_a (sym h)) in
      let g2 = ap (count_of (is_reply k j)) (got_no e.site a e not_a) in
      (omega arith, omega arith)

  -- at the one site of both
  each_own : (j k : ℕ) → At t j e.site → At t k e.site → EachWait n e.site e.site j k
  each_own j k at_j at_k =
      let both = inv.each e.site e.site j k at_j at_k in
      let move = wait_move e.site e.site j k at_j at_k in
      let q1 = ap (count_of (is_request j k)) (inv.own_link e.site) in
      let q2 = ap (count_of (is_reply k j)) (inv.own_link e.site) in
      let q3 = ap (count_of (is_request j k)) (own_link_kept e.site) in
      let q4 = ap (count_of (is_reply k j)) (own_link_kept e.site) in
      let f1 = ap (count_of (is_request j k)) (none_from_own t e.site (w.value e.site) e.entry.event st.accepted) in
      let f2 = ap (count_of (is_reply k j)) (none_from_own t e.site (w.value e.site) e.entry.event st.accepted) in
      let waits = waits_move t e.site (w.value e.site) e.entry.event e.entry.declared j k e.site st.accepted at_j at_k
      (λ g. let one = ap bit (grants_means t e.site (w.value e.site) e.entry.event j k st.accepted g).2 in let is : bit (has (w.value e.site).waits j k) ≡ 1 = omega arith in bit_one _ 0 is) in
      let owed = owed_move t e.site (w.value e.site) e.entry.event e.entry.declared j k e.site st.accepted at_k at_j
      (λ q. let none = ap bit (asks_means t e.site (w.value e.site) e.entry.event j k st.accepted q).1 in bit_zero _ (omega arith)) in
      let waits_now = waits_here j k in
      let owed_now = owed_here j k in
      let here : bit (grants k j e.entry.event && is_at t k e.site) ≡ bit (grants k j e.entry.event) = ap bit (and_yes (grants k j e.entry.event) (is_at t k e.site) (is_at-yes t k e.site at_k)) in
      let there : bit (asks_for j k e.entry.event && is_at t j e.site) ≡ bit (asks_for j k e.entry.event) = ap bit (and_yes (asks_for j k e.entry.event) (is_at t j e.site) (is_at-yes t j e.site at_j)) in
      (omega arith, omega arith)

  -- a wait is still at just one of its three places
  each_kept : (a b j k : ℕ) → At t j a → At t k b → EachWait n a b j k
  each_kept a b j k at_j at_k = elim (cases_eq e.site a) [
    | inl at_a ↦ elim (cases_eq e.site b) [
      | inl at_b ↦ subst (λ z. EachWait n a z j k) at_b (subst (λ z. EachWait n z e.site j k) at_a (each_own j k (subst (At t j) (sym at_a) at_j) (subst (At t k) (sym at_b) at_k)))
      | inr not_b ↦ subst (λ z. EachWait n z b j k) at_a (each_from b j k (subst (At t j) (sym at_a) at_j) at_k not_b)
    ]
    | inr not_a ↦ elim (cases_eq e.site b) [
      | inl at_b ↦ subst (λ z. EachWait n a z j k) at_b (each_to a j k at_j (subst (At t k) (sym at_b) at_k) not_a)
      | inr not_b ↦ each_far a b j k at_j at_k not_a not_b
    ]
  ]

  -- whoever waits, and is waited for, is known
  known_kept : (j k : ℕ) → Waiting n j k → ((a : ℕ) × At t j a) × ((b : ℕ) × At t k b)
  known_kept j k h = elim (or_cases (asks_for j k e.entry.event) (not (grants k j e.entry.event) && w.wait j k) (sym (st.waits j k) ∙ h)) [
    | inl q ↦ let means = asks_means t e.site (w.value e.site) e.entry.event j k st.accepted q in ((e.site, means.0), means.2)
    | inr both ↦ inv.known j k (and_parts (not (grants k j e.entry.event)) (w.wait j k) both).1
  ]

  -- a wait for a blocked process stays
  pub wait_kept : (p q : ℕ) → Waiting w p q → BlockedAt t w inv q → Waiting n p q
  wait_kept p q h b =
      let no_grant : grants q p e.entry.event ≡ false = false_from_ne_true _ (λ g.
      let means = grants_means t e.site (w.value e.site) e.entry.event p q st.accepted g in
      true≢false (sym (subst (λ z. is_blocked (w.value z) q ≡ true) (one_place t q b.0 e.site b.1 means.0) b.2) ∙ means.1)) in
      st.waits p q ∙ ap (λ z. asks_for p q e.entry.event || (not z && w.wait p q)) no_grant ∙ or_right (asks_for p q e.entry.event) (w.wait p q) h

  -- a path to a blocked process stays
  pub path_kept : (p : ℕ) (members : List ℕ) (q : ℕ) → IsPath (Waiting w) p members q → BlockedAt t w inv q → IsPath (Waiting n) p members q
  path_kept p [] q h b = h
  path_kept p (x ∷ xs) q h b = (wait_kept p x h.0 (path_blocks t w inv x xs q h.1 b), path_kept x xs q h.1 b)

  -- so does one of at least one wait
  leads_kept : (p q : ℕ) → LeadsTo (Waiting w) p q → BlockedAt t w inv q → LeadsTo (Waiting n) p q
  leads_kept p q h b = (h.0, h.1, wait_kept p h.0 h.2 (path_blocks t w inv h.0 h.1 q h.3 b), path_kept h.0 h.1 q h.3 b)

  -- a cycle stays, since each of its members is blocked
  pub cycle_kept : (p : ℕ) (next : ℕ) (members : List ℕ) → Waiting w p next → IsPath (Waiting w) next members p → Waiting n p next × IsPath (Waiting n) next members p
  cycle_kept p next members h path =
      let b = wait_blocks t w inv p next h in
      (wait_kept p next h (path_blocks t w inv next members p path b), path_kept next members p path b)

  -- a probe that acts shows that its receiver is one on which the origin depends
  probe_leads : (a i f k : ℕ) → e.entry.event ≡ Got a (Probe (i, f, k)) → probe_acts (w.value e.site) i f k ≡ true → At t k e.site × (is_blocked (w.value e.site) k ≡ true) × LeadsTo (Waiting w) i k
  probe_leads a i f k is acts =
      let acc = subst (Accepts t e.site (w.value e.site)) is st.accepted in
      let tests = and_parts (is_blocked (w.value e.site) k) (not (has (w.value e.site).dependents k i) && has (w.value e.site).owed k f) acts in
      let owed : has (w.value e.site).owed k f ≡ true = (and_parts (not (has (w.value e.site).dependents k i)) (has (w.value e.site).owed k f) tests.1).1 in
      let queue : w.queue a e.site ≡ Probe (i, f, k) ∷ n.queue a e.site =
      sym (append-nil (w.queue a e.site)) ∙ ap (λ z. w.queue a e.site ++ z) (sym (sent_no a e.site e (λ h. acc.0 (sym h)))) ∙ st.links a e.site
      ∙ ap (λ z. z ++ n.queue a e.site) (got_yes a e.site e refl ∙ ap (frame_from a) is ∙ frame_from-yes a a (Probe (i, f, k)) refl) in
      let fits = inv.probes a e.site i f k [] (n.queue a e.site) queue in
      let both = inv.each a e.site f k acc.1 acc.2 in
      let one = ap bit owed in
      let most = bit_at_most (w.wait f k) in
      let wait_one : bit (w.wait f k) ≡ 1 = omega arith in
      let waits : Waiting w f k = bit_one (w.wait f k) 0 wait_one in
      let count = ap (count_of (is_request f k)) queue in
      let none : count_of (is_request f k) (n.queue a e.site) ≡ 0 = omega arith in
      let path = fits.3 waits none in
      (acc.2, tests.0, leads_on (Waiting w) i path.0 f k path.1 waits)

  -- a dependent is one still, and the process on which it depends is blocked
  dependents_kept : (b k i : ℕ) → has (n.value b).dependents k i ≡ true → At t k b × (is_blocked (n.value b) k ≡ true) × LeadsTo (Waiting n) i k
  dependents_kept b k i h = elim (cases_eq e.site b) [
    | inl at_b ↦ subst (λ z. At t k z × (is_blocked (n.value z) k ≡ true) × LeadsTo (Waiting n) i k) at_b
        (go (dependents_after t e.site (w.value e.site) e.entry.event e.entry.declared k i (ap (λ v. has v.dependents k i) (sym st.here) ∙ subst (λ z. has (n.value z).dependents k i ≡ true) (sym at_b) h)))
    | inr not_b ↦
        let same = st.elsewhere b (λ z. not_b (sym z)) in
        let old = inv.dependents b k i (ap (λ v. has v.dependents k i) (sym same) ∙ h) in
        (old.0, ap (λ v. is_blocked v k) same ∙ old.1, leads_kept i k old.2 (b, old.0, old.1))
  ]
    where
      go : ((has (w.value e.site).dependents k i ≡ true) × (is_blocked (w.value e.site) k ≡ true → is_blocked (after t e.site (w.value e.site) e.entry.event e.entry.declared) k ≡ true))
          ⊎ ((a : ℕ) × (f : ℕ) × (e.entry.event ≡ Got a (Probe (i, f, k))) × (probe_acts (w.value e.site) i f k ≡ true))
          → At t k e.site × (is_blocked (n.value e.site) k ≡ true) × LeadsTo (Waiting n) i k
      go (inl x) =
          let old = inv.dependents e.site k i x.0 in
          (old.0, ap (λ v. is_blocked v k) st.here ∙ x.1 old.1, leads_kept i k old.2 (e.site, old.0, old.1))
      go (inr x) =
          let new = probe_leads x.0 i x.1 k x.2 x.3 in (
            new.0,
            ap (λ v. is_blocked v k) st.here ∙ ap (λ ev. is_blocked (after t e.site (w.value e.site) ev e.entry.declared) k) x.2 ∙ ap (λ r. has_some r k) (probe_waits t e.site (w.value e.site) x.0 i x.1 k e.entry.declared) ∙ new.1,
            leads_kept i k new.2 (e.site, new.0, new.1),
          )

  -- a wait between processes of the site is a wait
  pub local_wait : (p q : ℕ) → WaitsLocally t e.site (n.value e.site).waits p q → Waiting n p q
  local_wait p q h =
      let both = each_kept e.site e.site p q h.0 h.1 in
      let one = ap bit h.2 in
      let q1 = ap (count_of (is_request p q)) (own_link_kept e.site) in
      let q2 = ap (count_of (is_reply q p)) (own_link_kept e.site) in
      let is : bit (n.wait p q) ≡ 1 = omega arith in
      bit_one (n.wait p q) 0 is

  -- a path of waits within the site is a path of waits
  local_path : (p : ℕ) (members : List ℕ) (q : ℕ) → IsPath (WaitsLocally t e.site (n.value e.site).waits) p members q → IsPath (Waiting n) p members q
  local_path p members q h = path_map (WaitsLocally t e.site (n.value e.site).waits) (Waiting n) local_wait p members q h

  -- the rules and the next world agree on the waits of the site
  pub new_waits : (after t e.site (w.value e.site) e.entry.event e.entry.declared).waits ≡ (n.value e.site).waits
  new_waits = ap (λ v. v.waits) (sym st.here)

  -- the origin leads to where its computation is
  origin_path : (ev : Event) → e.entry.event ≡ ev → (i p : ℕ) → IsOrigin (w.value e.site) ev i p → (members : List ℕ) × IsPath (Waiting n) i members p
  origin_path (Ask asker targets) is i p o = ([], o.0 ∙ sym o.1)
  origin_path (Reply x y) is i p o = absurd o
  origin_path (Start x) is i p o = ([], o.0 ∙ sym o.1)
  origin_path (Got a (Request (x, y))) is i p o = absurd o
  origin_path (Got a (Reply_frame (x, y))) is i p o = absurd o
  origin_path (Got a (Probe (x, f, to))) is i p o =
      let lead = probe_leads a x f to is o.2 in
      let new = leads_kept x to lead.2 (e.site, lead.0, lead.1) in
      subst (λ z. (members : List ℕ) × IsPath (Waiting n) i members z) (sym o.1) (subst (λ z. (members : List ℕ) × IsPath (Waiting n) z members to) (sym o.0) (new.0 ∷ new.1, (new.2, new.3)))

  -- a probe whose wait stands has a path behind it
  probes_kept : (a b i j k : ℕ) (earlier behind : List Frame) → n.queue a b ≡ earlier ++ Probe (i, j, k) ∷ behind → ProbeFits t n a b i j k behind
  probes_kept a b i j k earlier behind h =
      let all : w.queue a b ++ sent_on a b e ≡ (got_on a b e ++ earlier) ++ Probe (i, j, k) ∷ behind = st.links a b ∙ ap (λ z. got_on a b e ++ z) h ∙ sym (append_assoc (got_on a b e) earlier (Probe (i, j, k) ∷ behind)) in
      go (split_append (w.queue a b) (sent_on a b e) (got_on a b e ++ earlier) (Probe (i, j, k)) behind all)
    where
      -- a probe that was under way before
      old : (ws : List Frame) → w.queue a b ≡ (got_on a b e ++ earlier) ++ Probe (i, j, k) ∷ ws → behind ≡ ws ++ sent_on a b e → ProbeFits t n a b i j k behind
      old ws first rest =
          let fits = inv.probes a b i j k (got_on a b e ++ earlier) ws first in
          let sum : count_of (is_request j k) behind ≡ count_of (is_request j k) ws + count_of (is_request j k) (sent_on a b e) = ap (count_of (is_request j k)) rest ∙ count-append (is_request j k) ws (sent_on a b e) in (
            fits.0,
            fits.1,
            fits.2,
            λ waits none. elim (cases_Bool (w.wait j k)) [
              | inl was ↦ let path = fits.3 was (omega arith) in (path.0, path_kept i path.0 j path.1 (wait_blocks t w inv j k was))
              | inr was ↦
                  let asks : asks_for j k e.entry.event ≡ true = or_left_only (asks_for j k e.entry.event) (not (grants k j e.entry.event)) (ap (λ z. asks_for j k e.entry.event || (not (grants k j e.entry.event) && z)) (sym was) ∙ sym (st.waits j k) ∙ waits) in
                  let at_s : e.site ≡ a = one_place t j e.site a (asks_means t e.site (w.value e.site) e.entry.event j k st.accepted asks).0 fits.1 in
                  let sent = requests_sent t e.site (w.value e.site) e.entry.event e.entry.sent e.entry.declared j k b st.accepted st.sends fits.2 (λ z. fits.0 (sym at_s ∙ sym z)) in
                  let on = ap (count_of (is_request j k)) (sent_yes a b e at_s) in
                  let one = ap bit asks in
                  absurd (omega arith)
            ],
          )
        where
          or_left_only : (x y : Bool) → (x || (y && false)) ≡ true → x ≡ true
          or_left_only true y h = refl
          or_left_only false true h = h
          or_left_only false false h = h

      -- a probe of this event
      new : (ws : List Frame) → sent_on a b e ≡ ws ++ Probe (i, j, k) ∷ behind → ProbeFits t n a b i j k behind
      new ws sent = elim (cases_eq e.site a) [
        | inr far ↦ absurd (empty_has_none ws (Probe (i, j, k)) behind (sym (sent_no a b e far) ∙ sent))
        | inl at_s ↦
            let edge = probe_sent t e.site (w.value e.site) e.entry.event e.entry.sent e.entry.declared b i j k ws behind st.sends (sym (sent_yes a b e at_s) ∙ sent) in
            let reach = subst (λ r. ReachesLocally t e.site r edge.0 j) new_waits edge.2.0 in
            let at_j : At t j e.site = reach_ends t e.site (n.value e.site).waits edge.0 reach.1.0 j reach.0 reach.1.1 in
            let first = origin_path e.entry.event refl i edge.0 edge.1 in (
              (λ z. edge.2.2.2 (one_place t k edge.2.2.0 b edge.2.2.1 edge.3 ∙ sym z ∙ sym at_s)),
              subst (At t j) at_s at_j,
              edge.3,
              λ waits none. (first.0 ++ reach.1.0, path_join (Waiting n) i first.0 edge.0 reach.1.0 j first.1 (local_path edge.0 reach.1.0 j reach.1.1)),
            )
      ]

      go : ((ws : List Frame) × (w.queue a b ≡ (got_on a b e ++ earlier) ++ Probe (i, j, k) ∷ ws) × (behind ≡ ws ++ sent_on a b e)) ⊎ ((ws : List Frame) × (sent_on a b e ≡ ws ++ Probe (i, j, k) ∷ behind)) → ProbeFits t n a b i j k behind
      go (inl x) = old x.0 x.1 x.2
      go (inr x) = new x.0 x.1

  -- all of it holds after the event
  pub kept : Invariant t n
  kept = record { own_link = own_link_kept; each = each_kept; known = known_kept; dependents = dependents_kept; probes = probes_kept }

  -- who is declared lies on a cycle
  pub declared_cycle : (i : ℕ) → e.entry.declared ≡ Some i → LeadsTo (Waiting n) i i
  declared_cycle i h = elim (declares t e.site (w.value e.site) e.entry.event e.entry.sent e.entry.declared i st.sends h) [
    | inl own ↦
        let d = subst (λ r. DependsOnItself t e.site r i) new_waits own in
        (d.0, d.2.1.0, local_wait i d.0 d.1, local_path d.0 d.2.1.0 i d.2.1.1)
    | inr far ↦
        let lead = probe_leads far.0 i far.1 far.2 far.3 far.4 in
        let new = leads_kept i far.2 lead.2 (e.site, lead.0, lead.1) in
        let reach = subst (λ r. ReachesLocally t e.site r far.2 i) new_waits far.5 in
        leads_further (Waiting n) i far.2 reach.1.0 i new (local_path far.2 reach.1.0 i reach.1.1)
  ]

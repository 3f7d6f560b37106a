-- Where asks start probe computations, that of the last asker of a cycle goes along the cycle until the asker is declared.
use Rattle.std.proofs.Common.{◌≡◌, ◌≢◌, ◌⊎◌, ℕ, Bool, true, false, not, ◌&&◌, ◌||◌, List, [], ◌∷◌, ◌++◌, map, refl, sym, ap, ◌∙◌, subst, inl, inr, true≢false, None, Some, arith, append_assoc}
use Rattle.std.specs.FinSet as set
use Rattle.std.proofs.lemmas.Bool.{cases_eq, cases_Bool, false_from_ne_true, MatchBool-at_true}
use Rattle.cmh_frames.specs.declared.frame.Frame.{Frame}
use Rattle.cmh_frames.specs.declared.frame.Frame.TheVariants.{Probe}
use Rattle.cmh_frames.specs.declared.event.Event.TheVariants.{Got}
use Rattle.cmh_frames.specs.Entries.{WorldEvent}
use Rattle.cmh_frames.specs.Edition.{starts_at_ask}
use Rattle.cmh_frames.specs.Topology.{Topology, At, site_of}
use Rattle.cmh_frames.specs.Relation.{has}
use Rattle.cmh_frames.specs.Rules.{Accepts, Sends, after, probe_acts, IsEdgeFrom, AreProbes}
use Rattle.cmh_frames.specs.State.{is_blocked}
use Rattle.cmh_frames.specs.Paths.{IsPath, WaitsLocally, ReachesLocally, DependsOnItself}
use Rattle.cmh_frames.specs.Journals.{frames_to, frame_from}
use Rattle.cmh_frames.specs.Waits.{asks_for, grants}
use Rattle.cmh_frames.specs.Laws.{bit, count_of, is_request}
use Rattle.cmh_frames.proofs.Places.{one_place, count-append, site_of-at}
use Rattle.cmh_frames.proofs.Moves.{probe_waits}
use Rattle.cmh_frames.proofs.Sent.{answers_of, to_yes, to-append, count_probes, requests_sent}
use Rattle.cmh_frames.proofs.Edges.{reach_ends, empty_has_none}
use Rattle.cmh_frames.proofs.Effects.{asks_means, dependents_after}
use Rattle.cmh_frames.proofs.AfterEvents.{dependents_stay, probe_marks, newly_means, StartsOne, ask_starts, frame_from_is, contains_split, map-append_one}
use Rattle.cmh_frames.proofs.Bits.{bit_one, bit_at_most}
use Rattle.cmh_frames.proofs.Journals.{sent_on, got_on}
use Rattle.cmh_frames.proofs.PathLemmas.{path_join}
use Rattle.cmh_frames.specs.LastAsker.{is_ask_of}
use Rattle.cmh_world.proofs.LastAsker.{asker_active}
use Rattle.cmh_world.proofs.World.{World, Step, Waiting, EachWait, Invariant, BlockedAt, wait_blocks, path_blocks}
use Rattle.cmh_world.proofs.Kept.{kept, path_kept, cycle_kept, new_waits, sent_yes, sent_no, got_yes, got_no}

-- a probe of i along the wait of p for x is under way, and no request of it after the probe
abbrev pub Live : World → ℕ → ℕ → ℕ → ℕ → ℕ → Type 0
Live w i p x a b = (earlier : List Frame) × (behind : List Frame) × (w.queue a b ≡ earlier ++ Probe (i, p, x) ∷ behind) × (count_of (is_request p x) behind ≡ 0)

-- the next wait between sites on the way from p to i has a probe of i, or a mark at its end
abbrev pub Ahead : Topology → World → ℕ → ℕ → List ℕ → Type 0
Ahead t w i p [] = ⊥
Ahead t w i p (x ∷ xs) =
    ((s : ℕ) × At t p s × At t x s × Ahead t w i x xs)
    ⊎ ((a : ℕ) × (b : ℕ) × At t p a × At t x b × (a ≢ b) × (Live w i p x a b ⊎ (has (w.value b).dependents x i ≡ true)))

-- after each mark the next wait between sites is so too
abbrev pub Marked : Topology → World → ℕ → List ℕ → Type 0
Marked t w i [] = Unit {0}
Marked t w i (x ∷ xs) = ((b : ℕ) → At t x b → has (w.value b).dependents x i ≡ true → Ahead t w i x xs) × Marked t w i xs

-- where nothing is under way, this can't go on for ever
pub ends_where_drained : (t : Topology) (w : World) (i p : ℕ) (xs : List ℕ) → ((a b : ℕ) → w.queue a b ≡ []) → Ahead t w i p xs → Marked t w i xs → ⊥
ends_where_drained t w i p [] none ahead marked = ahead
ends_where_drained t w i p (x ∷ xs) none ahead marked = elim ahead [
  | inl here ↦ ends_where_drained t w i x xs none here.3 marked.1
  | inr there ↦ elim there.5 [
    | inl live ↦
        let empty : [] ≡ live.0 ++ Probe (i, p, x) ∷ live.1 = sym (none there.0 there.1) ∙ live.2 in
        absurd (empty_has_none live.0 (Probe (i, p, x)) live.1 empty)
    | inr mark ↦ ends_where_drained t w i x xs none (marked.0 there.1 there.3 mark) marked.1
  ]
]

module _ (t : Topology) (w : World) (e : WorldEvent) (n : World) (inv : Invariant t w) (st : Step t w e n) where
  -- what holds of the next world
  next_invariant : Invariant t n
  next_invariant = kept t w e n inv st

  -- who is blocked is so at the site where it is, afterwards
  blocked_at : (x b : ℕ) → At t x b → BlockedAt t n next_invariant x → is_blocked (n.value b) x ≡ true
  blocked_at x b at h = subst (λ z. is_blocked (n.value z) x ≡ true) (one_place t x h.0 b h.1 at) h.2

  -- and before
  blocked_before : (x b : ℕ) → At t x b → BlockedAt t w inv x → is_blocked (w.value b) x ≡ true
  blocked_before x b at h = subst (λ z. is_blocked (w.value z) x ≡ true) (one_place t x h.0 b h.1 at) h.2

  -- a mark at a process that stays blocked stays
  mark_kept : (x i b : ℕ) → has (w.value b).dependents x i ≡ true → is_blocked (n.value b) x ≡ true → has (n.value b).dependents x i ≡ true
  mark_kept x i b h blocked = elim (cases_eq e.site b) [
    | inl at ↦
        subst (λ z. has (n.value z).dependents x i ≡ true) at
        (ap (λ v. has v.dependents x i) st.here
        ∙ dependents_stay t e.site (w.value e.site) e.entry.event e.entry.declared x i (subst (λ z. has (w.value z).dependents x i ≡ true) (sym at) h)
        (ap (λ v. is_blocked v x) (sym st.here) ∙ subst (λ z. is_blocked (n.value z) x ≡ true) (sym at) blocked))
    | inr far ↦ ap (λ v. has v.dependents x i) (st.elsewhere b (λ z. far (sym z))) ∙ h
  ]

  -- a probe under way stays so, or comes and leaves its mark
  live_kept : (i p x a b : ℕ) → At t p a → At t x b → a ≢ b → Waiting w p x → BlockedAt t w inv x → is_blocked (n.value b) x ≡ true → Live w i p x a b → Live n i p x a b ⊎ (has (n.value b).dependents x i ≡ true)
  live_kept i p x a b at_p at_x apart waits blocked stays live =
      elim (cases_eq e.site b) [
        | inr far ↦ inl (stay live.0 (got_on a b e) refl (got_no a b e far))
        | inl at ↦ come (frame_from a e.entry.event) refl live.0 live.2 at
      ]
    where
      both : EachWait w a b p x
      both = inv.each a b p x at_p at_x

      none_sent : count_of (is_request p x) (sent_on a b e) ≡ 0
      none_sent = elim (cases_eq e.site a) [
        | inl at ↦
            ap (count_of (is_request p x)) (sent_yes a b e at)
            ∙ requests_sent t e.site (w.value e.site) e.entry.event e.entry.sent e.entry.declared p x b st.accepted st.sends at_x (λ z. apart (sym at ∙ sym z))
            ∙ ap bit (false_from_ne_true (asks_for p x e.entry.event) (λ q.
            let means = asks_means t e.site (w.value e.site) e.entry.event p x st.accepted q in
            let old = ap bit (subst (λ z. has (w.value z).waits p x ≡ false) at means.1) in
            let one = ap bit waits in
            let sums = both in
            omega arith))
        | inr far ↦ ap (count_of (is_request p x)) (sent_no a b e far)
      ]

      behind_now : count_of (is_request p x) (live.1 ++ sent_on a b e) ≡ 0
      behind_now = let sum = count-append (is_request p x) live.1 (sent_on a b e) in let old = live.3 in let none = none_sent in omega arith

      line : (earlier : List Frame) → (earlier ++ Probe (i, p, x) ∷ live.1) ++ sent_on a b e ≡ earlier ++ Probe (i, p, x) ∷ (live.1 ++ sent_on a b e)
      line earlier = append_assoc earlier (Probe (i, p, x) ∷ live.1) (sent_on a b e)

      stay : (earlier : List Frame) (got : List Frame) → got_on a b e ≡ got → got ≡ [] → Live n i p x a b
      stay earlier got is empty =
          (live.0, live.1 ++ sent_on a b e, ap (λ z. z ++ n.queue a b) (sym (is ∙ empty)) ∙ sym (st.links a b) ∙ ap (λ z. z ++ sent_on a b e) live.2 ∙ line live.0, behind_now)

      come : (got : List Frame) → frame_from a e.entry.event ≡ got → (earlier : List Frame) → w.queue a b ≡ earlier ++ Probe (i, p, x) ∷ live.1 → e.site ≡ b → Live n i p x a b ⊎ (has (n.value b).dependents x i ≡ true)
      come [] is earlier queue at = inl (stay earlier [] (got_yes a b e at ∙ is) refl)
      come (g ∷ gs) is [] queue at =
          let what = frame_from_is a e.entry.event g gs is in
          let list : Probe (i, p, x) ∷ (live.1 ++ sent_on a b e) ≡ g ∷ (gs ++ n.queue a b) = sym (ap (λ z. z ++ sent_on a b e) queue) ∙ st.links a b ∙ ap (λ z. z ++ n.queue a b) (got_yes a b e at ∙ is) in
          let first : Probe (i, p, x) ≡ g = cc list in
          let event : e.entry.event ≡ Got a (Probe (i, p, x)) = what.0 ∙ ap (Got a) (sym first) in
          let count = ap (count_of (is_request p x)) queue in
          let old = live.3 in
          let sums = both in
          let one = ap bit waits in
          let owed_bit : bit (has (w.value b).owed x p) ≡ 1 = omega arith in
          let owed : has (w.value e.site).owed x p ≡ true = subst (λ z. has (w.value z).owed x p ≡ true) (sym at) (bit_one (has (w.value b).owed x p) 0 owed_bit) in
          let blocked_here : is_blocked (w.value e.site) x ≡ true = subst (λ z. is_blocked (w.value z) x ≡ true) (sym at) (blocked_before x b at_x blocked) in
          inr (subst (λ z. has (n.value z).dependents x i ≡ true) at
          (ap (λ v. has v.dependents x i) st.here ∙ ap (λ ev. has (after t e.site (w.value e.site) ev e.entry.declared).dependents x i) event ∙ probe_marks t e.site (w.value e.site) a i p x e.entry.declared blocked_here owed))
      come (g ∷ gs) is (u ∷ us) queue at =
          let what = frame_from_is a e.entry.event g gs is in
          let list : u ∷ (us ++ Probe (i, p, x) ∷ (live.1 ++ sent_on a b e)) ≡ g ∷ (gs ++ n.queue a b) = sym (ap (λ z. z ++ sent_on a b e) queue ∙ line (u ∷ us)) ∙ st.links a b ∙ ap (λ z. z ++ n.queue a b) (got_yes a b e at ∙ is) in
          let rest : us ++ Probe (i, p, x) ∷ (live.1 ++ sent_on a b e) ≡ gs ++ n.queue a b = cc list in
          inl (us, live.1 ++ sent_on a b e, ap (λ z. z ++ n.queue a b) (sym what.1) ∙ sym rest, behind_now)

  -- what is ahead of a process on a path to a blocked one stays ahead
  ahead_kept : (i p : ℕ) (xs : List ℕ) → IsPath (Waiting w) p xs i → BlockedAt t w inv i → BlockedAt t n next_invariant i → Ahead t w i p xs → Ahead t n i p xs
  ahead_kept i p [] path blocked still ahead = ahead
  ahead_kept i p (x ∷ xs) path blocked still ahead = elim ahead [
    | inl here ↦ inl (here.0, here.1, here.2, ahead_kept i x xs path.1 blocked still here.3)
    | inr there ↦
        let stays = blocked_at x there.1 there.3 (path_blocks t n next_invariant x xs i (path_kept t w e n inv st x xs i path.1 blocked) still) in
        inr (
          there.0,
          there.1,
          there.2,
          there.3,
          there.4,
          elim there.5 [
            | inl live ↦ live_kept i p x there.0 there.1 there.2 there.3 there.4 path.0 (path_blocks t w inv x xs i path.1 blocked) stays live
            | inr mark ↦ inr (mark_kept x i there.1 mark stays)
          ],
        )
  ]

  -- ---- a computation that goes on

  -- who waits for a process of another site has the wait in the set of its own
  keeps_of : (p x a b : ℕ) → Waiting n p x → At t p a → At t x b → has (n.value a).waits p x ≡ true
  keeps_of p x a b waits at_p at_x =
      let both = next_invariant.each a b p x at_p at_x in
      let one = ap bit waits in
      let most = bit_at_most (has (n.value a).waits p x) in
      let is : bit (has (n.value a).waits p x) ≡ 1 = omega arith in
      bit_one (has (n.value a).waits p x) 0 is

  -- where probes go out along a wait between sites, one is under way
  live_new :
      (i from p x b : ℕ) (probes : List (ℕ × Frame)) → e.entry.sent ≡ answers_of t e.site e.entry.event ++ probes → AreProbes t e.site (n.value e.site).waits i from probes
      → IsEdgeFrom t e.site (n.value e.site).waits from (p, x) → At t x b → e.site ≢ b → Live n i p x e.site b
  live_new i from p x b probes sent are edge at far =
      (w.queue e.site b ++ (frames_to b (answers_of t e.site e.entry.event) ++ frames_to b (map along parts.0)), frames_to b (map along parts.1), queue, count_probes t (is_request p x) i b parts.1 (λ f g. refl))
    where
      along : ℕ × ℕ → ℕ × Frame
      along edge = (site_of t edge.1, Probe (i, edge.0, edge.1))

      parts : (us : List (ℕ × ℕ)) × (vs : List (ℕ × ℕ)) × (are.edges ≡ us ++ (p, x) ∷ vs)
      parts = contains_split are.edges (p, x) ((are.all (p, x)).1 edge)

      frames : frames_to b probes ≡ frames_to b (map along parts.0) ++ Probe (i, p, x) ∷ frames_to b (map along parts.1)
      frames =
          ap (frames_to b) (are.are ∙ ap (map along) parts.2 ∙ map-append_one along parts.0 (p, x) parts.1)
          ∙ to-append b (map along parts.0) (along (p, x) ∷ map along parts.1)
          ∙ ap (λ z. frames_to b (map along parts.0) ++ z) (to_yes b (site_of t x) (Probe (i, p, x)) (map along parts.1) (site_of-at t x b at))

      queue : n.queue e.site b ≡ (w.queue e.site b ++ (frames_to b (answers_of t e.site e.entry.event) ++ frames_to b (map along parts.0))) ++ Probe (i, p, x) ∷ frames_to b (map along parts.1)
      queue =
          ap (λ z. z ++ n.queue e.site b) (sym (got_no e.site b e far)) ∙ sym (st.links e.site b)
          ∙ ap (λ z. w.queue e.site b ++ z) (sent_yes e.site b e refl ∙ ap (frames_to b) sent ∙ to-append b (answers_of t e.site e.entry.event) probes ∙ ap (λ z. frames_to b (answers_of t e.site e.entry.event) ++ z) frames)
          ∙ ap (λ z. w.queue e.site b ++ z) (sym (append_assoc (frames_to b (answers_of t e.site e.entry.event)) (frames_to b (map along parts.0)) (Probe (i, p, x) ∷ frames_to b (map along parts.1))))
          ∙ sym (append_assoc (w.queue e.site b) (frames_to b (answers_of t e.site e.entry.event) ++ frames_to b (map along parts.0)) (Probe (i, p, x) ∷ frames_to b (map along parts.1)))

  -- from what the source of these probes reaches locally, the next wait between sites has one
  launch :
      (i from : ℕ) (probes : List (ℕ × Frame)) → e.entry.sent ≡ answers_of t e.site e.entry.event ++ probes → AreProbes t e.site (n.value e.site).waits i from probes
      → (first : ℕ) (to_first : List ℕ) → At t from e.site → IsPath (WaitsLocally t e.site (n.value e.site).waits) from to_first first → (ReachesLocally t e.site (n.value e.site).waits first i → ⊥)
      → (p : ℕ) (members : List ℕ) → IsPath (WaitsLocally t e.site (n.value e.site).waits) first members p → (xs : List ℕ) → IsPath (Waiting n) p xs i → Ahead t n i p xs
  launch i from probes sent are first to_first at reach back p members local [] path =
      back (reach_ends t e.site (n.value e.site).waits from to_first first at reach, (members, subst (λ z. IsPath (WaitsLocally t e.site (n.value e.site).waits) first members z) path local))
  launch i from probes sent are first to_first at reach back p members local (x ∷ xs) path =
      let at_first = reach_ends t e.site (n.value e.site).waits from to_first first at reach in
      let at_p = reach_ends t e.site (n.value e.site).waits first members p at_first local in
      let home = (next_invariant.known p x path.0).1 in
      let keeps = keeps_of p x e.site home.0 path.0 at_p home.1 in
      elim (cases_eq e.site home.0) [
        | inl here ↦
            let at_x : At t x e.site = subst (At t x) (sym here) home.1 in
            inl (
              e.site,
              at_p,
              at_x,
              launch i from probes sent are first to_first at reach back x (members ++ x ∷ [])
                  (path_join (WaitsLocally t e.site (n.value e.site).waits) first members p (x ∷ []) x local ((at_p, at_x, keeps), refl)) xs path.1,
            )
        | inr far ↦
            let whole = path_join (WaitsLocally t e.site (n.value e.site).waits) from to_first first members p reach local in
            inr (e.site, home.0, at_p, home.1, far, inl (live_new i from p x home.0 probes sent are ((at, (to_first ++ members, whole)), keeps, (home.0, home.1, (λ z. far (sym z)))) home.1 far))
      ]

  module _ (D : ℕ → Type 0) (known : (s i : ℕ) → set.contains (w.value s).declared i ≡ true → D i) where
    abbrev DeclaredNow : ℕ → Type 0
    DeclaredNow i = D i ⊎ (e.entry.declared ≡ Some i)

    -- a new mark sends probes on, or its origin is declared
    new_mark : (a i f x : ℕ) (xs : List ℕ) → e.entry.event ≡ Got a (Probe (i, f, x)) → probe_acts (w.value e.site) i f x ≡ true → IsPath (Waiting n) x xs i → DeclaredNow i ⊎ Ahead t n i x xs
    new_mark a i f x xs is acts path =
        let sends = MatchBool-at_true _ _ acts (subst (λ ev. Sends t e.site (w.value e.site) ev e.entry.sent e.entry.declared) is st.sends) in
        let acc = subst (Accepts t e.site (w.value e.site)) is st.accepted in
        elim sends [
          | inl d ↦ inl (elim (newly_means (w.value e.site) i e.entry.declared d.2) [ inl c ↦ inl (known e.site i c) | inr c ↦ inr c ])
          | inr d ↦
              let same : (w.value e.site).waits ≡ (n.value e.site).waits =
              sym (ap (λ ev. (after t e.site (w.value e.site) ev e.entry.declared).waits) is ∙ probe_waits t e.site (w.value e.site) a i f x e.entry.declared) ∙ new_waits t w e n inv st in
              inr (launch i x e.entry.sent (ap (λ z. z ++ e.entry.sent) (sym (ap (answers_of t e.site) is))) (subst (λ r. AreProbes t e.site r i x e.entry.sent) same d.1)
              x [] acc.2 refl (λ reach. d.0 (subst (λ r. ReachesLocally t e.site r x i) (sym same) reach)) x [] refl xs path)
        ]

    marked_one : (i p x : ℕ) (xs : List ℕ) → Waiting w p x → IsPath (Waiting w) x xs i → BlockedAt t w inv i → BlockedAt t n next_invariant i
        → ((b : ℕ) → At t x b → has (w.value b).dependents x i ≡ true → Ahead t w i x xs)
        → DeclaredNow i ⊎ ((b : ℕ) → At t x b → has (n.value b).dependents x i ≡ true → Ahead t n i x xs)
    marked_one i p x xs waits path blocked still old = elim (cases_Bool (has (n.value home.0).dependents x i)) [
      | inr none ↦ inr (λ b at h. absurd (true≢false (sym (subst (λ z. has (n.value z).dependents x i ≡ true) (one_place t x b home.0 at home.1) h) ∙ none)))
      | inl one ↦ elim (now one) [ inl d ↦ inl d | inr a ↦ inr (λ b at h. a) ]
    ]
      where
        home : (b : ℕ) × At t x b
        home = (inv.known p x waits).1

        before : has (w.value home.0).dependents x i ≡ true → Ahead t n i x xs
        before h = ahead_kept i x xs path blocked still (old home.0 home.1 h)

        now : has (n.value home.0).dependents x i ≡ true → DeclaredNow i ⊎ Ahead t n i x xs
        now h = elim (cases_eq e.site home.0) [
          | inr far ↦ inr (before (ap (λ v. has v.dependents x i) (sym (st.elsewhere home.0 (λ z. far (sym z)))) ∙ h))
          | inl at ↦ elim (dependents_after t e.site (w.value e.site) e.entry.event e.entry.declared x i (ap (λ v. has v.dependents x i) (sym st.here) ∙ subst (λ z. has (n.value z).dependents x i ≡ true) (sym at) h)) [
            | inl o ↦ inr (before (subst (λ z. has (w.value z).dependents x i ≡ true) at o.0))
            | inr m ↦ new_mark m.0 i m.1 x xs m.2 m.3 (path_kept t w e n inv st x xs i path blocked)
          ]
        ]

    marked_kept : (i p : ℕ) (xs : List ℕ) → IsPath (Waiting w) p xs i → BlockedAt t w inv i → BlockedAt t n next_invariant i → Marked t w i xs → DeclaredNow i ⊎ Marked t n i xs
    marked_kept i p [] path blocked still marked = inr tt
    marked_kept i p (x ∷ xs) path blocked still marked = both (marked_one i p x xs path.0 path.1 blocked still marked.0) (marked_kept i x xs path.1 blocked still marked.1)
      where
        both : DeclaredNow i ⊎ ((b : ℕ) → At t x b → has (n.value b).dependents x i ≡ true → Ahead t n i x xs) → DeclaredNow i ⊎ Marked t n i xs → DeclaredNow i ⊎ Marked t n i (x ∷ xs)
        both (inl d) r = inl d
        both (inr a) (inl d) = inl d
        both (inr a) (inr m) = inr (a, m)

    -- an ask that closes a cycle declares the asker, or its computation goes along the cycle
    ask_launches : (starts_at_ask t.edition) ≡ true → (u x : ℕ) (xs : List ℕ) → asks_for u x e.entry.event ≡ true → Waiting n u x → IsPath (Waiting n) x xs u → DeclaredNow u ⊎ (Ahead t n u u (x ∷ xs) × Marked t n u (x ∷ xs))
    ask_launches two u x xs asks waits path = elim one.start [
      | inl d ↦ inl (elim (newly_means (after t e.site (w.value e.site) e.entry.event None) u e.entry.declared d.2) [
        | inl c ↦ inl (known e.site u (ap (λ r. set.contains r u) (sym one.declared) ∙ c))
        | inr c ↦ inr c
      ])
      | inr d ↦ inr (ahead d.0 (subst (λ r. AreProbes t e.site r u u one.probes) same d.1), unmarked (x ∷ xs))
    ]
      where
        one : StartsOne t e.site (w.value e.site) e.entry.event e.entry.sent e.entry.declared u
        one = ask_starts t e.site (w.value e.site) e.entry.event e.entry.sent e.entry.declared u x two st.accepted st.sends asks

        same : (after t e.site (w.value e.site) e.entry.event None).waits ≡ (n.value e.site).waits
        same = one.waits ∙ new_waits t w e n inv st

        at_u : At t u e.site
        at_u = (asks_means t e.site (w.value e.site) e.entry.event u x st.accepted asks).0

        home : (b : ℕ) × At t x b
        home = (next_invariant.known u x waits).1

        keeps : has (n.value e.site).waits u x ≡ true
        keeps = keeps_of u x e.site home.0 waits at_u home.1

        ahead : (DependsOnItself t e.site (after t e.site (w.value e.site) e.entry.event None).waits u → ⊥) → AreProbes t e.site (n.value e.site).waits u u one.probes → Ahead t n u u (x ∷ xs)
        ahead back are = elim (cases_eq e.site home.0) [
          | inl here ↦
              let at_x : At t x e.site = subst (At t x) (sym here) home.1 in
              inl (
                e.site,
                at_u,
                at_x,
                launch u u one.probes one.are are x (x ∷ []) at_u ((at_u, at_x, keeps), refl)
                    (λ reach. back (subst (λ r. DependsOnItself t e.site r u) (sym same) (x, (at_u, at_x, keeps), reach))) x [] refl xs path,
              )
          | inr far ↦ inr (e.site, home.0, at_u, home.1, far, inl (live_new u u u x home.0 one.probes one.are are ((at_u, ([], refl)), keeps, (home.0, home.1, (λ z. far (sym z)))) home.1 far))
        ]

        -- nothing depends on a process that waited for nobody
        no_mark : (b y : ℕ) → has (n.value b).dependents y u ≡ true → ⊥
        no_mark b y h =
            let old : has (w.value b).dependents y u ≡ true = elim (cases_eq e.site b) [
              | inl at ↦ subst (λ z. has (w.value z).dependents y u ≡ true) at (ap (λ r. has r y u) (sym (ap (λ v. v.dependents) st.here ∙ one.dependents)) ∙ subst (λ z. has (n.value z).dependents y u ≡ true) (sym at) h)
              | inr far ↦ ap (λ v. has v.dependents y u) (sym (st.elsewhere b (λ z. far (sym z)))) ∙ h
            ] in
            let lead = (inv.dependents b y u old).2 in
            let blocked = wait_blocks t w inv u lead.0 lead.2 in
            true≢false (sym (blocked_before u e.site at_u blocked) ∙ one.active)

        unmarked : (ys : List ℕ) → Marked t n u ys
        unmarked [] = tt
        unmarked (y ∷ ys) = ((λ b at h. absurd (no_mark b y h)), unmarked ys)

-- i is declared, or a computation of i goes along the cycle that is written from i
abbrev pub Followed : Topology → World → (ℕ → Type 0) → ℕ → ℕ → List ℕ → Type 0
Followed t w D i next others =
    D i ⊎ (Waiting w i next × IsPath (Waiting w) next others i × Ahead t w i i (next ∷ others) × Marked t w i (next ∷ others))

module _ (t : Topology) (w : World) (e : WorldEvent) (n : World) (inv : Invariant t w) (st : Step t w e n) (D : ℕ → Type 0) (known : (s i : ℕ) → set.contains (w.value s).declared i ≡ true → D i) where
  -- an event keeps it
  pub followed_kept : (i next : ℕ) (others : List ℕ) → Followed t w D i next others → Followed t n (λ j. D j ⊎ (e.entry.declared ≡ Some j)) i next others
  followed_kept i next others (inl d) = inl (inl d)
  followed_kept i next others (inr f) =
      let new = cycle_kept t w e n inv st i next others f.0 f.1 in
      let blocked = wait_blocks t w inv i next f.0 in
      let still = wait_blocks t n (kept t w e n inv st) i next new.0 in
      elim (marked_kept t w e n inv st D known i i (next ∷ others) (f.0, f.1) blocked still f.3) [
        | inl d ↦ inl d
        | inr m ↦ inr (new.0, new.1, ahead_kept t w e n inv st i i (next ∷ others) (f.0, f.1) blocked still f.2, m)
      ]

  -- a wait of the asker that stands after its ask is one that the ask began, since the asker was active
  pub began : (u x : ℕ) → is_ask_of u e.entry.event ≡ true → Waiting n u x → asks_for u x e.entry.event ≡ true
  began u x asks waits = only_asks (asks_for u x e.entry.event) (not (grants x u e.entry.event)) (w.wait u x) (n.wait u x) none_before (st.waits u x) waits
    where
      none_before : w.wait u x ≡ false
      none_before = false_from_ne_true (w.wait u x) (λ h.
          let active = asker_active t e.site (w.value e.site) e.entry.event u st.accepted asks in
          let blocked = wait_blocks t w inv u x h in
          true≢false (sym (blocked_before t w e n inv st u e.site active.0 blocked) ∙ active.1))

      only_asks : (x y z now : Bool) → z ≡ false → now ≡ (x || (y && z)) → now ≡ true → x ≡ true
      only_asks true y z now h k l = refl
      only_asks false true z now h k l = absurd (true≢false (sym l ∙ k ∙ h))
      only_asks false false z now h k l = absurd (true≢false (sym l ∙ k))

  -- the ask that closes a cycle begins it
  pub followed_from : (starts_at_ask t.edition) ≡ true → (u next : ℕ) (others : List ℕ) → asks_for u next e.entry.event ≡ true → Waiting n u next → IsPath (Waiting n) next others u
      → Followed t n (λ j. D j ⊎ (e.entry.declared ≡ Some j)) u next others
  followed_from two u next others asks waits path = elim (ask_launches t w e n inv st D known two u next others asks waits path) [
    | inl d ↦ inl d
    | inr m ↦ inr (waits, path, m.0, m.1)
  ]

-- No frame is in transit exactly where every frame that was sent has come.
use Rattle.std.proofs.Common.{◌≡◌, ◌≢◌, ◌⊎◌, ◌↔◌, ℕ, zero, suc, ◌<◌, Bool, true, false, true≢false, if◌then◌else◌, List, [], ◌∷◌, ◌++◌, map, length, drop, get_or, Option, None, Some, inl, inr, ⊎_elim, sym, ap, subst, refl, ◌∙◌, arith, append-nil}
use Rattle.std.proofs.lemmas.List.{drop_all}
use Rattle.std.specs.Prelude.{Contains, IsSome}
use Rattle.std.specs.List.{AllByRecursion}
use Rattle.std.proofs.lemmas.Bool.{cases_Bool}
use Rattle.cmh_frames.specs.declared.frame.Frame.{Frame}
use Rattle.cmh_frames.specs.declared.frame.Frame.TheVariants.{Request, Reply as Reply_frame, Probe}
use Rattle.cmh_frames.specs.Topology.{Topology, home, At, is_at, site_of, sites_of, is_site}
use Rattle.cmh_frames.specs.declared.event.Event.{Event}
use Rattle.cmh_frames.specs.declared.event.Event.TheVariants.{Ask, Reply, Start, Got}
use Rattle.cmh_frames.specs.Entries.{Entry, WorldEvent}
use Rattle.cmh_frames.specs.State.{State, empty_state}
use Rattle.cmh_frames.specs.Rules.{Accepts, Sends, after, requests, replies}
use Rattle.cmh_frames.specs.Journals.{LawfulFrom, frames_to, sendings_of}
use Rattle.cmh_frames.specs.Runs.{IsRun, IsDrained, IsBeginningOf, entries_of, sendings, receipts, under_way}
use Rattle.cmh_frames.proofs.Journals.{whole}
use Rattle.cmh_frames.proofs.Places.{site_of-at}
use Rattle.cmh_frames.proofs.Sent.{shape, answers_of, to_no, to-append}
use Rattle.cmh_audit.proofs.CountingLemmas.{sum_over, in_transit}
use Rattle.cmh_frames.proofs.Beginnings.{beginning_refl, empty_list}
use Rattle.cmh_frames.proofs.Members.{found_at, found_from}
use Rattle.cmh_frames.proofs.Strangers.{at_site, stranger_silent}

-- ---- frames go to sites of the topology alone

module _ (t : Topology) where
  some_home : (p : ℕ) → IsSome (home t p) → Contains (sites_of t) (site_of t p)
  some_home p h = go (home t p) refl h
    where
      go : (o : Option ℕ) → home t p ≡ o → IsSome o → Contains (sites_of t) (site_of t p)
      go None e g = absurd (cc)
      go (Some s) e g = subst (Contains (sites_of t)) (sym (site_of-at t p s e)) (at_site t p s e)

  module _ (b : ℕ) (no_site : Contains (sites_of t) b → ⊥) where
    not_there : (s : ℕ) → Contains (sites_of t) s → s ≢ b
    not_there s c e = no_site (subst (Contains (sites_of t)) e c)

    no_requests : (s asker : ℕ) (targets : List ℕ) → AllByRecursion (λ k. IsSome (home t k) × (k ≢ asker)) targets → frames_to b (requests t s asker targets) ≡ []
    no_requests s asker [] known = refl
    no_requests s asker (k ∷ ks) known = go (is_at t k s) (no_requests s asker ks known.1)
      where
        go : (here : Bool) → frames_to b (requests t s asker ks) ≡ [] → frames_to b (if here then requests t s asker ks else (site_of t k, Request (asker, k)) ∷ requests t s asker ks) ≡ []
        go true h = h
        go false h = to_no b (site_of t k) (Request (asker, k)) (requests t s asker ks) (not_there (site_of t k) (some_home k known.0.0)) ∙ h

    no_replies : (s holder asker : ℕ) → IsSome (home t asker) → frames_to b (replies t s holder asker) ≡ []
    no_replies s holder asker known = go (is_at t asker s)
      where
        go : (here : Bool) → frames_to b (if here then [] else (site_of t asker, Reply_frame (holder, asker)) ∷ []) ≡ []
        go true = refl
        go false = to_no b (site_of t asker) (Reply_frame (holder, asker)) [] (not_there (site_of t asker) (some_home asker known))

    no_answers : (s : ℕ) (v : State) (ev : Event) → Accepts t s v ev → frames_to b (answers_of t s ev) ≡ []
    no_answers s v (Ask asker targets) h = no_requests s asker targets h.2.known
    no_answers s v (Reply holder asker) h = no_replies s holder asker h.3
    no_answers s v (Start i) h = refl
    no_answers s v (Got a frame) h = refl

    no_probes : (origin : ℕ) (edges : List (ℕ × ℕ)) → ((k : ℕ) → k < length edges → (d : ℕ × ℕ) → (a : ℕ) × At t (get_or edges k d).1 a) → frames_to b (map (λ (edge : ℕ × ℕ). (site_of t edge.1, Probe (origin, edge.0, edge.1))) edges) ≡ []
    no_probes origin [] known = refl
    no_probes origin (x ∷ xs) known =
        let at = known 0 (omega arith) x in
        to_no b (site_of t x.1) (Probe (origin, x.0, x.1)) (map (λ (edge : ℕ × ℕ). (site_of t edge.1, Probe (origin, edge.0, edge.1))) xs)
        (not_there (site_of t x.1) (subst (Contains (sites_of t)) (sym (site_of-at t x.1 at.0 at.1)) (at_site t x.1 at.0 at.1)))
        ∙ no_probes origin xs (λ k l d. known (suc k) (omega arith) d)

    pub none_sent : (s : ℕ) (v : State) (e : Entry) → Accepts t s v e.event → Sends t s v e.event e.sent e.declared → frames_to b e.sent ≡ []
    none_sent s v e accepted sends =
        let sh = shape t s v e.event e.sent e.declared sends in
        ap (frames_to b) sh.is ∙ to-append b (answers_of t s e.event) sh.probes ∙ ap (λ fs. fs ++ frames_to b sh.probes) (no_answers s v e.event accepted)
        ∙ ⊎_elim
        (λ none. ap (frames_to b) none)
        (λ p. let are = p.3 in ap (frames_to b) are.are ∙ no_probes p.0 are.edges (λ k l d.
        let edge = (are.all (get_or are.edges k d)).0 (k, l, get_or_same are.edges k d l) in (edge.2.0, edge.2.1)))
        sh.from
      where
        get_or_same : (xs : List (ℕ × ℕ)) (k : ℕ) (d : ℕ × ℕ) → k < length xs → get_or xs k (get_or xs k d) ≡ get_or xs k d
        get_or_same [] k d l = absurd (omega arith)
        get_or_same (x ∷ xs) zero d l = refl
        get_or_same (x ∷ xs) (suc k) d l = get_or_same xs k d (omega arith)

    none_to : (s : ℕ) (v : State) (es : List Entry) → LawfulFrom t s v es → sendings_of b es ≡ []
    none_to s v [] lawful = refl
    none_to s v (e ∷ es) lawful = ap (λ fs. fs ++ sendings_of b es) (none_sent s v e lawful.0 lawful.1) ∙ none_to s (after t s v e.event e.declared) es lawful.2

  -- ---- sums

  zero_each : (f : ℕ → ℕ) (sites : List ℕ) → sum_over f sites ≡ 0 → (s : ℕ) → Contains sites s → f s ≡ 0
  zero_each f [] h s c = let l = c.1 in absurd (omega (arith, l))
  zero_each f (x ∷ sites) h s c = go c.0 c.1 c.2 (zero_each f sites (omega (arith, h)) s)
    where
      go : (k : ℕ) → k < length (x ∷ sites) → get_or (x ∷ sites) k s ≡ s → (Contains sites s → f s ≡ 0) → f s ≡ 0
      go zero l e more = ap f (sym e) ∙ (let z : f x ≡ 0 = omega (arith, h) in z)
      go (suc k) l e more = more (k, omega arith, e)

  all_zero : (f : ℕ → ℕ) (sites : List ℕ) → ((s : ℕ) → f s ≡ 0) → sum_over f sites ≡ 0
  all_zero f [] h = refl
  all_zero f (x ∷ sites) h = let a = h x in let m = all_zero f sites h in omega (arith, a, m)

  pub site_or_not : (s : ℕ) → Contains (sites_of t) s ⊎ (Contains (sites_of t) s → ⊥)
  site_or_not s = ⊎_elim
      (λ yes'. inl (found_at (sites_of t) s yes'))
      (λ no'. inr (λ c. true≢false (sym (found_from (sites_of t) s c) ∙ no')))
      (cases_Bool (is_site t s))

  -- ---- drained

  module _ (events : List WorldEvent) (run : IsRun t events) where
    beginning : (a b : ℕ) → IsBeginningOf (receipts a b events) (sendings a b events)
    beginning a b = run.in_order events (beginning_refl events) a b

    nothing_sent : (a b : ℕ) → sendings a b events ≡ [] → receipts a b events ≡ sendings a b events
    nothing_sent a b none = go (receipts a b events) (beginning a b).0 ((beginning a b).1 ∙ none) ∙ sym none
      where
        go : (xs rest : List Frame) → xs ++ rest ≡ [] → xs ≡ []
        go [] rest h = refl
        go (x ∷ xs) rest h = absurd (cc)

    drained_on : in_transit t events ≡ 0 → (a b : ℕ) → receipts a b events ≡ sendings a b events
    drained_on zero' a b = ⊎_elim
        (λ at_a. ⊎_elim
        (λ at_b.
        let one = zero_each (λ a. sum_over (λ b. length (under_way a b events)) (sites_of t)) (sites_of t) zero' a at_a in
        let none = empty_list (under_way a b events) (zero_each (λ b. length (under_way a b events)) (sites_of t) one b at_b) in
        sym (append-nil (receipts a b events)) ∙ ap (λ fs. receipts a b events ++ fs) (sym none) ∙ whole (receipts a b events) (sendings a b events) (beginning a b))
        (λ not_b. nothing_sent a b (none_to b not_b a empty_state (entries_of a events) (run.lawful a)))
        (site_or_not b))
        (λ not_a. nothing_sent a b (ap (sendings_of b) (stranger_silent t a (entries_of a events) not_a (run.lawful a))))
        (site_or_not a)

    pub drained_iff : (in_transit t events ≡ 0) ↔ IsDrained events
    drained_iff = (
      drained_on,
      λ drained. all_zero (λ a. sum_over (λ b. length (under_way a b events)) (sites_of t)) (sites_of t) (λ a.
          all_zero (λ b. length (under_way a b events)) (sites_of t) (λ b.
          ap (λ n. length (drop n (sendings a b events))) (ap length (drained a b)) ∙ ap length (drop_all (length (sendings a b events)) (sendings a b events) (omega arith)))),
    )

-- The probes that an event sends, and that no frame goes to the sender's own site.
use Rattle.std.proofs.Common.{◌≡◌, ◌≢◌, ◌⊎◌, ℕ, Bool, true, false, List, [], ◌∷◌, ◌++◌, map, if◌then◌else◌, refl, sym, ap, ◌∙◌, subst, inl, inr, true≢false, Option, None, Some, IsSome, unwrap_or, arith, get_or}
use Rattle.std.specs.List.{AllByRecursion}
use Rattle.std.proofs.lemmas.Bool.{eq-eqb, cases_eq, cases_Bool}
use Rattle.std.proofs.lemmas.List.Elements.{recursion_from_All, Contains-get_or}
use Rattle.cmh_frames.specs.declared.frame.Frame.{Frame}
use Rattle.cmh_frames.specs.declared.frame.Frame.TheVariants.{Request, Reply as Reply_frame, Probe}
use Rattle.cmh_frames.specs.declared.event.Event.{Event}
use Rattle.cmh_frames.specs.declared.event.Event.TheVariants.{Ask, Reply, Start, Got}
use Rattle.cmh_frames.specs.Topology.{Topology, home, At, is_at, is_some_of, site_of}
use Rattle.cmh_frames.specs.Relation.{Relation}
use Rattle.cmh_frames.specs.State.{State}
use Rattle.cmh_frames.specs.Rules.{Accepts, Sends, after, IsEdgeFrom, AreProbes, requests, replies}
use Rattle.cmh_frames.specs.Paths.{IsPath, WaitsLocally}
use Rattle.cmh_frames.specs.Journals.{frames_to}
use Rattle.cmh_frames.specs.Laws.{count_of}
use Rattle.cmh_frames.proofs.Places.{site_of-at, count-append}
use Rattle.cmh_frames.proofs.Sent.{answers_of, IsOrigin, shape, to_yes, to_no, to-append, count_to_no}

-- a path of local waits ends at the site
pub reach_ends : (t : Topology) (s : ℕ) (waits : Relation) (p : ℕ) (members : List ℕ) (q : ℕ) → At t p s → IsPath (WaitsLocally t s waits) p members q → At t q s
reach_ends t s waits p [] q at path = subst (λ x. At t x s) path at
reach_ends t s waits p (x ∷ xs) q at path = reach_ends t s waits x xs q path.0.1 path.1

-- each edge of the probes is one from the place where the computation is
pub each_edge : (t : Topology) (s : ℕ) (waits : Relation) (i p : ℕ) (sent : List (ℕ × Frame)) (a : AreProbes t s waits i p sent) → AllByRecursion (IsEdgeFrom t s waits p) a.edges
each_edge t s waits i p sent a = recursion_from_All (IsEdgeFrom t s waits p) a.edges (λ k d l. (a.all (get_or a.edges k d)).0 (Contains-get_or a.edges k d l))

-- the first of two equal lists of frames that begin with probes
same_probe : (o o' f f' g g' : ℕ) (xs ys : List Frame) → Probe (o, f, g) ∷ xs ≡ Probe (o', f', g') ∷ ys → (o ≡ o') × (f ≡ f') × (g ≡ g')
same_probe o o' f f' g g' xs ys e =
    let all : ◌≡◌ {A = ℕ × ℕ × ℕ} (o, f, g) (o', f', g') = cc e in
    (ap (λ (q : ℕ × ℕ × ℕ). q.0) all, ap (λ (q : ℕ × ℕ × ℕ). q.1) all, ap (λ (q : ℕ × ℕ × ℕ). q.2) all)

-- lists with equal first members
first_same : (x y : Frame) (xs ys : List Frame) → x ∷ xs ≡ y ∷ ys → x ≡ y
first_same x y xs ys e = (cc)

pub same_rest : (x y : Frame) (xs ys : List Frame) → x ∷ xs ≡ y ∷ ys → xs ≡ ys
same_rest x y xs ys e = (cc)

-- an empty list has no member
pub empty_has_none : (us : List Frame) (x : Frame) (vs : List Frame) → [] ≡ us ++ x ∷ vs → ⊥
empty_has_none [] x vs e = (cc)
empty_has_none (u ∷ us) x vs e = (cc)

-- a probe among those along some edges is along one of them
one_of_probes :
    (t : Topology) (P : ℕ × ℕ → Type 0) (origin b i j k : ℕ) (edges : List (ℕ × ℕ)) (us vs : List Frame) → AllByRecursion P edges
    → frames_to b (map (λ (edge : ℕ × ℕ). (site_of t edge.1, Probe (origin, edge.0, edge.1))) edges) ≡ us ++ Probe (i, j, k) ∷ vs → (origin ≡ i) × P (j, k) × (site_of t k ≡ b)
one_of_probes t P origin b i j k [] us vs each e = absurd (empty_has_none us (Probe (i, j, k)) vs e)
one_of_probes t P origin b i j k (x ∷ xs) us vs each e = elim (cases_eq (site_of t x.1) b) [
  | inl at ↦ go us (sym (to_yes b (site_of t x.1) (Probe (origin, x.0, x.1)) (map (λ (edge : ℕ × ℕ). (site_of t edge.1, Probe (origin, edge.0, edge.1))) xs) at) ∙ e) at (λ ws. one_of_probes t P origin b i j k xs ws vs each.1)
  | inr n ↦ one_of_probes t P origin b i j k xs us vs each.1 (sym (to_no b (site_of t x.1) (Probe (origin, x.0, x.1)) (map (λ (edge : ℕ × ℕ). (site_of t edge.1, Probe (origin, edge.0, edge.1))) xs) n) ∙ e)
]
  where
    go : (us : List Frame) → Probe (origin, x.0, x.1) ∷ frames_to b (map (λ (edge : ℕ × ℕ). (site_of t edge.1, Probe (origin, edge.0, edge.1))) xs) ≡ us ++ Probe (i, j, k) ∷ vs → site_of t x.1 ≡ b
        → ((ws : List Frame) → frames_to b (map (λ (edge : ℕ × ℕ). (site_of t edge.1, Probe (origin, edge.0, edge.1))) xs) ≡ ws ++ Probe (i, j, k) ∷ vs → (origin ≡ i) × P (j, k) × (site_of t k ≡ b))
        → (origin ≡ i) × P (j, k) × (site_of t k ≡ b)
    go [] e at more =
        let same = same_probe origin i x.0 j x.1 k (frames_to b (map (λ (edge : ℕ × ℕ). (site_of t edge.1, Probe (origin, edge.0, edge.1))) xs)) vs e in
        (same.0, subst (λ z. P (j, z)) same.2 (subst (λ z. P (z, x.1)) same.1 each.0), ap (site_of t) (sym same.2) ∙ at)
    go (u ∷ us) e at more = more us (same_rest (Probe (origin, x.0, x.1)) u (frames_to b (map (λ (edge : ℕ × ℕ). (site_of t edge.1, Probe (origin, edge.0, edge.1))) xs)) (us ++ Probe (i, j, k) ∷ vs) e)

-- ---- no frame goes to the sender's own site

-- a known process that is not at the site has another home
home_elsewhere : (o : Option ℕ) (s : ℕ) → IsSome o → is_some_of o s ≡ false → unwrap_or o 0 ≢ s
home_elsewhere None s some h = absurd (true≢false (sym some))
home_elsewhere (Some q) s some h = λ e. true≢false (sym (eq-eqb q s e) ∙ h)

-- no request goes to the own site
own_requests : (t : Topology) (s asker : ℕ) (ks : List ℕ) → AllByRecursion (λ k. IsSome (home t k) × (k ≢ asker)) ks → frames_to s (requests t s asker ks) ≡ []
own_requests t s asker [] known = refl
own_requests t s asker (k ∷ ks) known = elim (cases_Bool (is_at t k s)) [
  | inl z ↦ ap (λ c. frames_to s (if c then requests t s asker ks else (site_of t k, Request (asker, k)) ∷ requests t s asker ks)) z ∙ own_requests t s asker ks known.1
  | inr z ↦ ap (λ c. frames_to s (if c then requests t s asker ks else (site_of t k, Request (asker, k)) ∷ requests t s asker ks)) z
      ∙ to_no s (site_of t k) (Request (asker, k)) (requests t s asker ks) (home_elsewhere (home t k) s known.0.0 z) ∙ own_requests t s asker ks known.1
]

-- no reply
own_replies : (t : Topology) (s holder asker : ℕ) → IsSome (home t asker) → frames_to s (replies t s holder asker) ≡ []
own_replies t s holder asker known = elim (cases_Bool (is_at t asker s)) [
  | inl z ↦ ap (λ c. frames_to s (if c then [] else (site_of t asker, Reply_frame (holder, asker)) ∷ [])) z
  | inr z ↦ ap (λ c. frames_to s (if c then [] else (site_of t asker, Reply_frame (holder, asker)) ∷ [])) z
      ∙ to_no s (site_of t asker) (Reply_frame (holder, asker)) [] (home_elsewhere (home t asker) s known z)
]

-- no probe
own_probes : (t : Topology) (s : ℕ) (waits : Relation) (origin p : ℕ) (edges : List (ℕ × ℕ)) → AllByRecursion (IsEdgeFrom t s waits p) edges → frames_to s (map (λ (edge : ℕ × ℕ). (site_of t edge.1, Probe (origin, edge.0, edge.1))) edges) ≡ []
own_probes t s waits origin p [] each = refl
own_probes t s waits origin p (x ∷ xs) each =
    to_no s (site_of t x.1) (Probe (origin, x.0, x.1)) (map (λ (edge : ℕ × ℕ). (site_of t edge.1, Probe (origin, edge.0, edge.1))) xs) (λ e. each.0.2.2 (sym (site_of-at t x.1 each.0.2.0 each.0.2.1) ∙ e))
    ∙ own_probes t s waits origin p xs each.1

-- neither requests nor a reply
own_answers : (t : Topology) (s : ℕ) (v : State) (ev : Event) → Accepts t s v ev → frames_to s (answers_of t s ev) ≡ []
own_answers t s v (Ask asker targets) acc = own_requests t s asker targets acc.2.known
own_answers t s v (Reply holder asker) acc = own_replies t s holder asker acc.3
own_answers t s v (Start i) acc = refl
own_answers t s v (Got a f) acc = refl

-- no frame that an event sends goes to the own site
pub none_to_own : (t : Topology) (s : ℕ) (v : State) (ev : Event) (sent : List (ℕ × Frame)) (d : Option ℕ) → Accepts t s v ev → Sends t s v ev sent d → frames_to s sent ≡ []
none_to_own t s v ev sent d acc sends =
    let x = shape t s v ev sent d sends in
    let probes : frames_to s x.probes ≡ [] = elim x.from [
      | inl e ↦ ap (frames_to s) e
      | inr y ↦ ap (frames_to s) y.3.are ∙ own_probes t s _ y.0 y.1 y.3.edges (each_edge t s _ y.0 y.1 x.probes y.3)
    ] in
    ap (frames_to s) x.is ∙ to-append s (answers_of t s ev) x.probes ∙ ap (λ z. z ++ frames_to s x.probes) (own_answers t s v ev acc) ∙ probes

-- ---- the probes in what is sent

-- the frame is a probe
abbrev is_probe : Frame → Bool
is_probe (Request (x, y)) = false
is_probe (Reply_frame (x, y)) = false
is_probe (Probe (o, f, g)) = true

-- an element of two lists joined is in the first or in the second
pub split_append : (xs ys us : List Frame) (x : Frame) (vs : List Frame) → xs ++ ys ≡ us ++ x ∷ vs → ((ws : List Frame) × (xs ≡ us ++ x ∷ ws) × (vs ≡ ws ++ ys)) ⊎ ((ws : List Frame) × (ys ≡ ws ++ x ∷ vs))
split_append [] ys us x vs e = inr (us, e)
split_append (z ∷ xs) ys [] x vs e = inl (xs, ap (λ w. w ∷ xs) (first_same z x (xs ++ ys) vs e), sym (same_rest z x (xs ++ ys) vs e))
split_append (z ∷ xs) ys (u ∷ us) x vs e = go (split_append xs ys us x vs (same_rest z u (xs ++ ys) (us ++ x ∷ vs) e))
  where
    go : ((ws : List Frame) × (xs ≡ us ++ x ∷ ws) × (vs ≡ ws ++ ys)) ⊎ ((ws : List Frame) × (ys ≡ ws ++ x ∷ vs)) → ((ws : List Frame) × (z ∷ xs ≡ u ∷ us ++ x ∷ ws) × (vs ≡ ws ++ ys)) ⊎ ((ws : List Frame) × (ys ≡ ws ++ x ∷ vs))
    go (inl r) = inl (r.0, (λ i. first_same z u (xs ++ ys) (us ++ x ∷ vs) e i ∷ r.1 i), r.2)
    go (inr r) = inr r

-- no request is a probe
request_no_probe : (t : Topology) (s asker b : ℕ) (ks : List ℕ) → count_of is_probe (frames_to b (requests t s asker ks)) ≡ 0
request_no_probe t s asker b [] = refl
request_no_probe t s asker b (q ∷ ks) = elim (cases_Bool (is_at t q s)) [
  | inl z ↦ ap (λ c. count_of is_probe (frames_to b (if c then requests t s asker ks else (site_of t q, Request (asker, q)) ∷ requests t s asker ks))) z ∙ request_no_probe t s asker b ks
  | inr z ↦ ap (λ c. count_of is_probe (frames_to b (if c then requests t s asker ks else (site_of t q, Request (asker, q)) ∷ requests t s asker ks))) z
      ∙ count_to_no is_probe b (site_of t q) (Request (asker, q)) (requests t s asker ks) refl ∙ request_no_probe t s asker b ks
]

-- neither requests nor a reply are probes
answer_no_probe : (t : Topology) (s b : ℕ) (ev : Event) → count_of is_probe (frames_to b (answers_of t s ev)) ≡ 0
answer_no_probe t s b (Ask asker targets) = request_no_probe t s asker b targets
answer_no_probe t s b (Reply holder asker) = elim (cases_Bool (is_at t asker s)) [
  | inl z ↦ ap (λ c. count_of is_probe (frames_to b (if c then [] else (site_of t asker, Reply_frame (holder, asker)) ∷ []))) z
  | inr z ↦ ap (λ c. count_of is_probe (frames_to b (if c then [] else (site_of t asker, Reply_frame (holder, asker)) ∷ []))) z ∙ count_to_no is_probe b (site_of t asker) (Reply_frame (holder, asker)) [] refl
]
answer_no_probe t s b (Start i) = refl
answer_no_probe t s b (Got a f) = refl

-- a probe that an event sends goes along an edge from the place where its computation is
pub probe_sent :
    (t : Topology) (s : ℕ) (v : State) (ev : Event) (sent : List (ℕ × Frame)) (d : Option ℕ) (b i j k : ℕ) (us vs : List Frame) → Sends t s v ev sent d → frames_to b sent ≡ us ++ Probe (i, j, k) ∷ vs
    → (p : ℕ) × IsOrigin v ev i p × IsEdgeFrom t s (after t s v ev d).waits p (j, k) × At t k b
probe_sent t s v ev sent d b i j k us vs sends e =
    let x = shape t s v ev sent d sends in
    let parts : frames_to b (answers_of t s ev) ++ frames_to b x.probes ≡ us ++ Probe (i, j, k) ∷ vs = sym (ap (frames_to b) x.is ∙ to-append b (answers_of t s ev) x.probes) ∙ e in
    elim (split_append (frames_to b (answers_of t s ev)) (frames_to b x.probes) us (Probe (i, j, k)) vs parts) [
      | inl r ↦
          let c : count_of is_probe (us ++ Probe (i, j, k) ∷ r.0) ≡ 0 = ap (count_of is_probe) (sym r.1) ∙ answer_no_probe t s b ev in
          absurd (omega (arith, c, count-append is_probe us (Probe (i, j, k) ∷ r.0)))
      | inr r ↦ elim x.from [
        | inl none ↦ absurd (empty_has_none r.0 (Probe (i, j, k)) vs (sym (ap (frames_to b) none) ∙ r.1))
        | inr y ↦
            let is = one_of_probes t (IsEdgeFrom t s (after t s v ev d).waits y.1) y.0 b i j k y.3.edges r.0 vs (each_edge t s (after t s v ev d).waits y.0 y.1 x.probes y.3) (sym (ap (frames_to b) y.3.are) ∙ r.1) in
            let at_k : At t k (is.1.2.0) = is.1.2.1 in
            (y.1, subst (λ z. IsOrigin v ev z y.1) is.0 y.2, is.1, subst (At t k) (sym (site_of-at t k is.1.2.0 at_k) ∙ is.2) at_k)
      ]
    ]

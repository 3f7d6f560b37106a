-- What an event sends on a link, and what it declares.
use Rattle.std.proofs.Common.{◌≡◌, ◌≢◌, ◌⊎◌, ◌<◌, ℕ, ◌+◌, Bool, true, false, ◌&&◌, ◌||◌, List, [], ◌∷◌, ◌++◌, map, ◌==◌, if◌then◌else◌, refl, sym, ap, ◌∙◌, subst, inl, inr, Option, None, Some, unwrap_or, arith, append-nil}
use Rattle.std.specs.List.{list_any, AllByRecursion}
use Rattle.std.specs.FinSet as set
use Rattle.std.proofs.lemmas.Bool.{eq-eqb, ne_eqb, cases_eq, cases_Bool, MatchBool-at_true, MatchBool-at_false}
use Rattle.std.proofs.lemmas.Option.{none-some}
use Rattle.cmh_runs.proofs.Sent as runs
use Rattle.cmh_frames.specs.declared.frame.Frame.{Frame}
use Rattle.cmh_frames.specs.declared.frame.Frame.TheVariants.{Request, Reply as Reply_frame, Probe}
use Rattle.cmh_frames.specs.declared.event.Event.{Event}
use Rattle.cmh_frames.specs.declared.event.Event.TheVariants.{Ask, Reply, Start, Got}
use Rattle.cmh_frames.specs.Edition.{starts_at_ask}
use Rattle.cmh_frames.specs.Topology.{Topology, At, is_at, site_of}
use Rattle.cmh_frames.specs.Relation.{Relation, with_each}
use Rattle.cmh_frames.specs.State.{State}
use Rattle.cmh_frames.specs.Rules.{Accepts, Sends, Starts, after, AreProbes, IsAscending, requests, replies, probe_acts}
use Rattle.cmh_frames.proofs.Words.{newly}
use Rattle.cmh_frames.specs.Paths.{ReachesLocally, DependsOnItself}
use Rattle.cmh_frames.specs.Journals.{frames_to}
use Rattle.cmh_frames.specs.Waits.{asks_for, grants}
use Rattle.cmh_frames.specs.Laws.{bit, count_of, is_request, is_reply}
use Rattle.cmh_frames.proofs.Places.{is_at-no, site_of-at, count-append}
use Rattle.cmh_frames.proofs.Moves.{both_or_not, both_yes, probe_waits}

-- ---- the shape of what is sent: requests or a reply, and then probes

-- the requests or the reply of an event
abbrev pub answers_of : Topology → ℕ → Event → List (ℕ × Frame)
answers_of t s (Ask asker targets) = requests t s asker targets
answers_of t s (Reply holder asker) = replies t s holder asker
answers_of t s (Start i) = []
answers_of t s (Got a f) = []

-- the event may send probes of the computation of i from this process
abbrev pub IsOrigin : State → Event → ℕ → ℕ → Type 0
IsOrigin v (Ask asker targets) i from = (i ≡ asker) × (from ≡ asker)
IsOrigin v (Reply holder asker) i from = ⊥
IsOrigin v (Start p) i from = (i ≡ p) × (from ≡ p)
IsOrigin v (Got a (Request (x, y))) i from = ⊥
IsOrigin v (Got a (Reply_frame (x, y))) i from = ⊥
IsOrigin v (Got a (Probe (o, f, to))) i from = (i ≡ o) × (from ≡ to) × (probe_acts v o f to ≡ true)

-- what is sent is the answers of the event, and then probes of one computation, if any
pub record Shape (t : Topology) (s : ℕ) (v : State) (ev : Event) (waits : Relation) (sent : List (ℕ × Frame)) : Type 0 where
  pub probes : List (ℕ × Frame)
  pub is : sent ≡ answers_of t s ev ++ probes
  -- no probes, or those from where a computation is
  pub from : (probes ≡ []) ⊎ ((i : ℕ) × (p : ℕ) × IsOrigin v ev i p × AreProbes t s waits i p probes)

-- where no probes are sent
no_probes : (t : Topology) (s : ℕ) (v : State) (ev : Event) (waits : Relation) (sent : List (ℕ × Frame)) → sent ≡ answers_of t s ev → Shape t s v ev waits sent
no_probes t s v ev waits sent e = record { probes = []; is = e ∙ sym (append-nil (answers_of t s ev)); from = inl refl }

-- where a start sends them
starts_shape : (t : Topology) (s : ℕ) (v w : State) (ev : Event) (i : ℕ) (probes : List (ℕ × Frame)) (d : Option ℕ) → IsOrigin v ev i i → Starts t s w i probes d → Shape t s v ev w.waits (answers_of t s ev ++ probes)
starts_shape t s v w ev i probes d o (inl x) = record { probes = probes; is = refl; from = inl x.1 }
starts_shape t s v w ev i probes d o (inr x) = record { probes = probes; is = refl; from = inr (i, i, o, x.1) }

-- what an event sends has this shape
pub shape : (t : Topology) (s : ℕ) (v : State) (ev : Event) (sent : List (ℕ × Frame)) (d : Option ℕ) → Sends t s v ev sent d → Shape t s v ev (after t s v ev d).waits sent
shape t s v (Ask asker targets) sent d h = elim (cases_Bool (starts_at_ask t.edition)) [
  | inl e ↦
      let x = MatchBool-at_true _ _ e h in
      subst (λ z. Shape t s v (Ask asker targets) (with_each v.waits asker targets) z) (sym x.1) (starts_shape t s v (after t s v (Ask asker targets) None) (Ask asker targets) asker x.0 d (refl, refl) x.2)
  | inr e ↦ no_probes t s v (Ask asker targets) (with_each v.waits asker targets) sent (MatchBool-at_false _ _ e h).0
]
shape t s v (Reply holder asker) sent d h = no_probes t s v (Reply holder asker) _ sent h.0
shape t s v (Start i) sent d h = starts_shape t s v v (Start i) i sent d (refl, refl) h
shape t s v (Got a (Request (x, y))) sent d h = no_probes t s v (Got a (Request (x, y))) _ sent h.0
shape t s v (Got a (Reply_frame (x, y))) sent d h = no_probes t s v (Got a (Reply_frame (x, y))) _ sent h.0
shape t s v (Got a (Probe (o, f, to))) sent d h = elim (cases_Bool (probe_acts v o f to)) [
  | inl e ↦ elim (MatchBool-at_true _ _ e h) [
    | inl x ↦ no_probes t s v (Got a (Probe (o, f, to))) _ sent x.1
    | inr x ↦ record {
      probes = sent;
      is = refl;
      from = inr (o, to, (refl, refl, e), subst (λ r. AreProbes t s r o to sent) (sym (probe_waits t s v a o f to d)) x.1);
    }
  ]
  | inr e ↦ no_probes t s v (Got a (Probe (o, f, to))) _ sent (MatchBool-at_false _ _ e h).0
]

-- ---- declarations

-- a new declaration is of the process in question
newly_is : (v : State) (p i : ℕ) → newly v p ≡ Some i → p ≡ i
newly_is v p i e = elim (cases_Bool (set.contains v.declared p)) [
  | inl c ↦ absurd (none-some i (sym (ap (λ z. if z then None else Some p) c) ∙ e))
  | inr c ↦ ap (λ o. unwrap_or o 0) (sym (ap (λ z. if z then None else Some p) c) ∙ e)
]

-- why an event declares i
abbrev pub IsDeadlocked : Topology → ℕ → State → Event → Relation → ℕ → Type 0
IsDeadlocked t s v ev waits i =
    DependsOnItself t s waits i ⊎ ((a : ℕ) × (f : ℕ) × (to : ℕ) × (ev ≡ Got a (Probe (i, f, to))) × (probe_acts v i f to ≡ true) × ReachesLocally t s waits to i)

-- a start declares who is locally dependent upon itself
starts_declares : (t : Topology) (s : ℕ) (w : State) (p : ℕ) (probes : List (ℕ × Frame)) (d : Option ℕ) (i : ℕ) → Starts t s w p probes d → d ≡ Some i → DependsOnItself t s w.waits i
starts_declares t s w p probes d i (inl x) e = subst (DependsOnItself t s w.waits) (newly_is w p i (sym x.2 ∙ e)) x.0
starts_declares t s w p probes d i (inr x) e = absurd (none-some i (sym x.2 ∙ e))

-- an event declares only who is deadlocked
pub declares : (t : Topology) (s : ℕ) (v : State) (ev : Event) (sent : List (ℕ × Frame)) (d : Option ℕ) (i : ℕ) → Sends t s v ev sent d → d ≡ Some i → IsDeadlocked t s v ev (after t s v ev d).waits i
declares t s v (Ask asker targets) sent d i h e = elim (cases_Bool (starts_at_ask t.edition)) [
  | inl c ↦ let x = MatchBool-at_true _ _ c h in inl (starts_declares t s (after t s v (Ask asker targets) None) asker x.0 d i x.2 e)
  | inr c ↦ absurd (none-some i (sym (MatchBool-at_false _ _ c h).1 ∙ e))
]
declares t s v (Reply holder asker) sent d i h e = absurd (none-some i (sym h.1 ∙ e))
declares t s v (Start p) sent d i h e = inl (starts_declares t s v p sent d i h e)
declares t s v (Got a (Request (x, y))) sent d i h e = absurd (none-some i (sym h.1 ∙ e))
declares t s v (Got a (Reply_frame (x, y))) sent d i h e = absurd (none-some i (sym h.1 ∙ e))
declares t s v (Got a (Probe (o, f, to))) sent d i h e = elim (cases_Bool (probe_acts v o f to)) [
  | inl c ↦ elim (MatchBool-at_true _ _ c h) [
    | inl x ↦
        let same : o ≡ i = newly_is v o i (sym x.2 ∙ e) in
        inr (a, f, to, ap (λ z. Got a (Probe (z, f, to))) same, subst (λ z. probe_acts v z f to ≡ true) same c, subst (λ r. ReachesLocally t s r to i) (sym (probe_waits t s v a o f to d)) (subst (ReachesLocally t s v.waits to) same x.0))
    | inr x ↦ absurd (none-some i (sym x.2 ∙ e))
  ]
  | inr c ↦ absurd (none-some i (sym (MatchBool-at_false _ _ c h).1 ∙ e))
]

-- ---- frames to a site

-- a frame that goes to b
pub to_yes : (b c : ℕ) (f : Frame) (xs : List (ℕ × Frame)) → c ≡ b → frames_to b ((c, f) ∷ xs) ≡ f ∷ frames_to b xs
to_yes = runs.to_yes

-- a frame that goes elsewhere
pub to_no : (b c : ℕ) (f : Frame) (xs : List (ℕ × Frame)) → c ≢ b → frames_to b ((c, f) ∷ xs) ≡ frames_to b xs
to_no = runs.to_no

-- the frames of two lists, one after the other
pub to-append : (b : ℕ) (xs ys : List (ℕ × Frame)) → frames_to b (xs ++ ys) ≡ frames_to b xs ++ frames_to b ys
to-append = runs.to-append

-- a frame that does not count
pub count_to_no : (p : Frame → Bool) (b c : ℕ) (f : Frame) (xs : List (ℕ × Frame)) → p f ≡ false → count_of p (frames_to b ((c, f) ∷ xs)) ≡ count_of p (frames_to b xs)
count_to_no p b c f xs h = elim (cases_eq c b) [
  | inl e ↦ let at = ap (count_of p) (to_yes b c f xs e) in let z = ap bit h in omega arith
  | inr n ↦ ap (count_of p) (to_no b c f xs n)
]

-- the probe along an edge
abbrev probe_along : Topology → ℕ → ℕ × ℕ → ℕ × Frame
probe_along t origin edge = (site_of t edge.1, Probe (origin, edge.0, edge.1))

-- probes do not count
pub count_probes : (t : Topology) (p : Frame → Bool) (origin b : ℕ) (edges : List (ℕ × ℕ)) → ((f g : ℕ) → p (Probe (origin, f, g)) ≡ false) → count_of p (frames_to b (map (probe_along t origin) edges)) ≡ 0
count_probes t p origin b [] h = refl
count_probes t p origin b (e ∷ es) h = count_to_no p b (site_of t e.1) (Probe (origin, e.0, e.1)) (map (probe_along t origin) es) (h e.0 e.1) ∙ count_probes t p origin b es h

-- what counts in what is sent counts in the requests or the reply
pub count_sent :
    (t : Topology) (s : ℕ) (v : State) (ev : Event) (waits : Relation) (sent : List (ℕ × Frame)) (p : Frame → Bool) (b : ℕ) → ((o f g : ℕ) → p (Probe (o, f, g)) ≡ false) → Shape t s v ev waits sent
    → count_of p (frames_to b sent) ≡ count_of p (frames_to b (answers_of t s ev))
count_sent t s v ev waits sent p b h x =
    let parts : count_of p (frames_to b sent) ≡ count_of p (frames_to b (answers_of t s ev)) + count_of p (frames_to b x.probes) =
    ap (λ z. count_of p (frames_to b z)) x.is ∙ ap (count_of p) (to-append b (answers_of t s ev) x.probes) ∙ count-append p (frames_to b (answers_of t s ev)) (frames_to b x.probes) in
    let none : count_of p (frames_to b x.probes) ≡ 0 = elim x.from [
      | inl e ↦ ap (λ z. count_of p (frames_to b z)) e
      | inr y ↦ ap (λ z. count_of p (frames_to b z)) y.3.are ∙ count_probes t p y.0 b y.3.edges (h y.0)
    ] in
    omega arith

-- ---- requests

-- an ask sends j's request to k as often as k is a target
count_requests : (t : Topology) (s j k b : ℕ) (ks : List ℕ) → At t k b → b ≢ s → count_of (is_request j k) (frames_to b (requests t s j ks)) ≡ count_of (λ q. q == k) ks
count_requests t s j k b [] at n = refl
count_requests t s j k b (q ∷ ks) at n = elim (cases_eq q k) [
  | inl e ↦
      let at_q : At t q b = subst (λ x. At t x b) (sym e) at in
      let here : count_of (is_request j k) (frames_to b (requests t s j (q ∷ ks))) ≡ count_of (is_request j k) (frames_to b ((site_of t q, Request (j, q)) ∷ requests t s j ks)) =
      ap (λ z. count_of (is_request j k) (frames_to b (if z then requests t s j ks else (site_of t q, Request (j, q)) ∷ requests t s j ks))) (is_at-no t q b s at_q n) in
      let there = ap (count_of (is_request j k)) (to_yes b (site_of t q) (Request (j, q)) (requests t s j ks) (site_of-at t q b at_q)) in
      let one = ap bit (both_yes j q j k refl e) in
      let same = ap bit (eq-eqb q k e) in
      let rest = count_requests t s j k b ks at n in
      omega arith
  | inr m ↦
      let zero_one = ap bit (ne_eqb q k m) in
      let rest = count_requests t s j k b ks at n in
      let here : count_of (is_request j k) (frames_to b (requests t s j (q ∷ ks))) ≡ count_of (is_request j k) (frames_to b (requests t s j ks)) = elim (cases_Bool (is_at t q s)) [
        | inl z ↦ ap (λ c. count_of (is_request j k) (frames_to b (if c then requests t s j ks else (site_of t q, Request (j, q)) ∷ requests t s j ks))) z
        | inr z ↦ ap (λ c. count_of (is_request j k) (frames_to b (if c then requests t s j ks else (site_of t q, Request (j, q)) ∷ requests t s j ks))) z
            ∙ count_to_no (is_request j k) b (site_of t q) (Request (j, q)) (requests t s j ks) (not_same j q k m)
      ] in
      omega arith
]
  where
    not_same : (j q k : ℕ) → q ≢ k → is_request j k (Request (j, q)) ≡ false
    not_same j q k m = ap (λ z. (j == j) && z) (ne_eqb q k m) ∙ ap (λ z. z && false) (eq-eqb j j refl)

-- an ask of another sends none
count_requests_other : (t : Topology) (s asker j k b : ℕ) (ks : List ℕ) → asker ≢ j → count_of (is_request j k) (frames_to b (requests t s asker ks)) ≡ 0
count_requests_other t s asker j k b [] n = refl
count_requests_other t s asker j k b (q ∷ ks) n = elim (cases_Bool (is_at t q s)) [
  | inl z ↦ ap (λ c. count_of (is_request j k) (frames_to b (if c then requests t s asker ks else (site_of t q, Request (asker, q)) ∷ requests t s asker ks))) z ∙ count_requests_other t s asker j k b ks n
  | inr z ↦ ap (λ c. count_of (is_request j k) (frames_to b (if c then requests t s asker ks else (site_of t q, Request (asker, q)) ∷ requests t s asker ks))) z
      ∙ count_to_no (is_request j k) b (site_of t q) (Request (asker, q)) (requests t s asker ks) (ap (λ x. x && (q == k)) (ne_eqb asker j n))
      ∙ count_requests_other t s asker j k b ks n
]

-- a number below all is not among them
none_above : (k : ℕ) (xs : List ℕ) → AllByRecursion (λ y. k < y) xs → count_of (λ q. q == k) xs ≡ 0
none_above k [] h = refl
none_above k (x ∷ xs) h = let z = ap bit (ne_eqb x k (λ e. omega (arith, h.0, e))) in let r = none_above k xs h.1 in omega arith

-- a number is in an ascending list at most once
pub count_ascending : (k : ℕ) (ks : List ℕ) → IsAscending ks → count_of (λ q. q == k) ks ≡ bit (list_any (λ q. q == k) ks)
count_ascending k [] h = refl
count_ascending k (x ∷ xs) h = elim (cases_eq x k) [
  | inl e ↦
      let z = ap bit (eq-eqb x k e) in
      let r = none_above k xs (subst (λ w. AllByRecursion (λ y. w < y) xs) e h.0) in
      let any : bit ((x == k) || list_any (λ q. q == k) xs) ≡ 1 = ap (λ c. bit (c || list_any (λ q. q == k) xs)) (eq-eqb x k e) in
      omega arith
  | inr n ↦
      let z = ap bit (ne_eqb x k n) in
      let r = count_ascending k xs h.1 in
      let any : bit ((x == k) || list_any (λ q. q == k) xs) ≡ bit (list_any (λ q. q == k) xs) = ap (λ c. bit (c || list_any (λ q. q == k) xs)) (ne_eqb x k n) in
      omega arith
]

-- the requests of j to k that an event sends
pub requests_sent :
    (t : Topology) (s : ℕ) (v : State) (ev : Event) (sent : List (ℕ × Frame)) (d : Option ℕ) (j k b : ℕ) → Accepts t s v ev → Sends t s v ev sent d → At t k b → b ≢ s
    → count_of (is_request j k) (frames_to b sent) ≡ bit (asks_for j k ev)
requests_sent t s v ev sent d j k b acc sends at n = count_sent t s v ev _ sent (is_request j k) b (λ o f g. refl) (shape t s v ev sent d sends) ∙ by ev acc
  where
    by : (ev : Event) → Accepts t s v ev → count_of (is_request j k) (frames_to b (answers_of t s ev)) ≡ bit (asks_for j k ev)
    by (Ask asker targets) acc = elim (cases_eq asker j) [
      | inl e ↦
          ap (λ x. count_of (is_request j k) (frames_to b (requests t s x targets))) e ∙ count_requests t s j k b targets at n ∙ count_ascending k targets acc.2.ascending
          ∙ ap (λ z. bit (z && list_any (λ q. q == k) targets)) (sym (eq-eqb asker j e))
      | inr m ↦ count_requests_other t s asker j k b targets m ∙ ap (λ z. bit (z && list_any (λ q. q == k) targets)) (sym (ne_eqb asker j m))
    ]
    by (Reply holder asker) acc = elim (cases_Bool (is_at t asker s)) [
      | inl z ↦ ap (λ c. count_of (is_request j k) (frames_to b (if c then [] else (site_of t asker, Reply_frame (holder, asker)) ∷ []))) z
      | inr z ↦ ap (λ c. count_of (is_request j k) (frames_to b (if c then [] else (site_of t asker, Reply_frame (holder, asker)) ∷ []))) z ∙ count_to_no (is_request j k) b (site_of t asker) (Reply_frame (holder, asker)) [] refl
    ]
    by (Start i) acc = refl
    by (Got a f) acc = refl

-- requests are no replies
count_requests_none : (t : Topology) (s asker j k b : ℕ) (ks : List ℕ) → count_of (is_reply k j) (frames_to b (requests t s asker ks)) ≡ 0
count_requests_none t s asker j k b [] = refl
count_requests_none t s asker j k b (q ∷ ks) = elim (cases_Bool (is_at t q s)) [
  | inl z ↦ ap (λ c. count_of (is_reply k j) (frames_to b (if c then requests t s asker ks else (site_of t q, Request (asker, q)) ∷ requests t s asker ks))) z ∙ count_requests_none t s asker j k b ks
  | inr z ↦ ap (λ c. count_of (is_reply k j) (frames_to b (if c then requests t s asker ks else (site_of t q, Request (asker, q)) ∷ requests t s asker ks))) z
      ∙ count_to_no (is_reply k j) b (site_of t q) (Request (asker, q)) (requests t s asker ks) refl
      ∙ count_requests_none t s asker j k b ks
]

-- the replies of k to j that an event sends
pub replies_sent :
    (t : Topology) (s : ℕ) (v : State) (ev : Event) (sent : List (ℕ × Frame)) (d : Option ℕ) (j k a : ℕ) → Sends t s v ev sent d → At t j a → a ≢ s
    → count_of (is_reply k j) (frames_to a sent) ≡ bit (grants k j ev)
replies_sent t s v ev sent d j k a sends at n = count_sent t s v ev _ sent (is_reply k j) a (λ o f g. refl) (shape t s v ev sent d sends) ∙ by ev
  where
    by : (ev : Event) → count_of (is_reply k j) (frames_to a (answers_of t s ev)) ≡ bit (grants k j ev)
    by (Ask asker targets) = count_requests_none t s asker j k a targets
    by (Reply holder asker) = elim (both_or_not holder asker k j) [
      | inl e ↦
          let at_asker : At t asker a = subst (λ x. At t x a) (sym e.1) at in
          let here : count_of (is_reply k j) (frames_to a (replies t s holder asker)) ≡ count_of (is_reply k j) (frames_to a ((site_of t asker, Reply_frame (holder, asker)) ∷ [])) =
          ap (λ c. count_of (is_reply k j) (frames_to a (if c then [] else (site_of t asker, Reply_frame (holder, asker)) ∷ []))) (is_at-no t asker a s at_asker n) in
          let there = ap (count_of (is_reply k j)) (to_yes a (site_of t asker) (Reply_frame (holder, asker)) [] (site_of-at t asker a at_asker)) in
          let one = ap bit (both_yes holder asker k j e.0 e.1) in
          omega arith
      | inr other ↦ elim (cases_Bool (is_at t asker s)) [
        | inl z ↦ ap (λ c. count_of (is_reply k j) (frames_to a (if c then [] else (site_of t asker, Reply_frame (holder, asker)) ∷ []))) z ∙ sym (ap bit other)
        | inr z ↦ ap (λ c. count_of (is_reply k j) (frames_to a (if c then [] else (site_of t asker, Reply_frame (holder, asker)) ∷ []))) z
            ∙ count_to_no (is_reply k j) a (site_of t asker) (Reply_frame (holder, asker)) [] other ∙ sym (ap bit other)
      ]
    ]
    by (Start i) = refl
    by (Got b f) = refl

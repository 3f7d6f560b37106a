-- The rules give some sendings.
use Rattle.std.proofs.Common.{◌≡◌, ◌≢◌, ◌⊎◌, ℕ, ◌+◌, max, Bool, true, false, not, ◌&&◌, ◌||◌, List, [], ◌∷◌, ◌++◌, map, ◌↔◌, ◌==◌, if◌then◌else◌, Option, None, refl, sym, ap, ◌∙◌, subst, inl, inr, true≢false, append-nil, append_assoc, MatchBool}
use Rattle.std.proofs.lemmas.Bool.{cases_Bool, cases_eq, eqb-true, eq-eqb, ne_eqb, and_parts, or_cases}
use Rattle.std.specs.List.{list_any}
use Rattle.cmh_model3.specs.declared.frame.Frame.TheVariants.{Request, Reply as Reply_frame, Withdraw as Withdraw_frame, Probe}
use Rattle.cmh_model3.specs.declared.frame.Message.{Message}
use Rattle.cmh_model3.specs.declared.event.Event.{Event}
use Rattle.cmh_model3.specs.declared.event.Event.TheVariants.{Ask, Reply, Withdraw, Got, Turn}
use Rattle.cmh_model3.specs.Lists.{with_each, in_list, is_nonempty}
use Rattle.cmh_model3.specs.Entries.{WorldEvent}
use Rattle.cmh_model3.specs.State.{State, is_blocked, waits_for, counts, passes}
use Rattle.cmh_model3.specs.Paths.{IsLocalPath, ReachesLocally, DependsOnItself}
use Rattle.cmh_model3.specs.Rules.{Accepts, Sends, DeclaresOrProbes, AreProbes, IsEdge, newly, probe_along, changed, requests, withdraws, probe_acts}
use Rattle.cmh_model3.specs.Journals.{message_from}
use Rattle.cmh_model3.specs.Runs.{state_of, under_way, IsRun}
use Rattle.cmh_model3.specs.Waits.{begins}
use Rattle.cmh_model3.specs.Laws.{SomeOutcome, RunsGoOn}
use Rattle.cmh_model3.specs.Rest.{asker_of, askers, same_pair, has, each_once}
use Rattle.cmh_model3.proofs.World.{World, Step}
use Rattle.cmh_model3.proofs.Pairs.{In}
use Rattle.cmh_model3.proofs.Counts.{in_joined, or_yes}
use Rattle.cmh_model3.proofs.Marks.{some_in, in_some}
use Rattle.cmh_model3.proofs.Askers.{asker_move}
use Rattle.cmh_model3.proofs.Lights.{path_home}
use Rattle.cmh_model3.proofs.Runs.{world_of, one_step}
use Rattle.cmh_model3.proofs.Extends.{extends_run}
use Rattle.cmh_model3.proofs.Deliveries.{deliveries_accepted}
use Rattle.cmh_model3.proofs.Sorting.{contains_in, in_contains, sorted, sorted_from, sorted_sorted, sorted_to}

pub any_in : (f : ℕ → Bool) (ks : List ℕ) (k : ℕ) → in_list ks k ≡ true → f k ≡ true → list_any f ks ≡ true
any_in f [] k h y = absurd (true≢false (sym h))
any_in f (q ∷ qs) k h y = elim (or_cases (q == k) (in_list qs k) h) [
  | inl e ↦ ap (λ z. z || list_any f qs) (ap f (eqb-true q k e) ∙ y)
  | inr more ↦ ap (λ z. f q || z) (any_in f qs k more y) ∙ or_yes (f q)
]

in_any : (f : ℕ → Bool) (ks : List ℕ) → list_any f ks ≡ true → (k : ℕ) × (in_list ks k ≡ true) × (f k ≡ true)
in_any f [] h = absurd (true≢false (sym h))
in_any f (q ∷ qs) h = elim (or_cases (f q) (list_any f qs) h) [
  | inl e ↦ (q, ap (λ z. z || in_list qs q) (eq-eqb q q refl), e)
  | inr more ↦ let r = in_any f qs more in (r.0, ap (λ z. (q == r.0) || z) r.1 ∙ or_yes (q == r.0), r.2)
]

pub and_both : (a b : Bool) → a ≡ true → b ≡ true → (a && b) ≡ true
and_both a b h g = ap (λ z. z && b) h ∙ g

-- ---- what is reached, by the members that a path may go through
module _ (edge : ℕ → ℕ → Bool) (next : ℕ → List ℕ) (listed : (x y : ℕ) → edge x y ≡ true → in_list (next x) y ≡ true) where
  abbrev reach : List ℕ → ℕ → ℕ → Bool
  reach [] x y = x == y
  reach (a ∷ ps) x y = reach ps x y || (reach ps x a && list_any (λ z. edge a z && reach ps z y) (next a))

  abbrev PathIn : List ℕ → ℕ → List ℕ → ℕ → Type 0
  PathIn ps p [] q = p ≡ q
  PathIn ps p (x ∷ xs) q = (in_list ps p ≡ true) × (edge p x ≡ true) × PathIn ps x xs q

  wider : (a : ℕ) (ps : List ℕ) (p : ℕ) (xs : List ℕ) (q : ℕ) → PathIn ps p xs q → PathIn (a ∷ ps) p xs q
  wider a ps p [] q h = h
  wider a ps p (x ∷ xs) q h = (ap (λ z. (a == p) || z) h.0 ∙ or_yes (a == p), h.1, wider a ps x xs q h.2)

  joined : (ps : List ℕ) (p : ℕ) (xs : List ℕ) (m : ℕ) (ys : List ℕ) (q : ℕ) → PathIn ps p xs m → PathIn ps m ys q → PathIn ps p (xs ++ ys) q
  joined ps p [] m ys q h g = subst (λ z. PathIn ps z ys q) (sym h) g
  joined ps p (x ∷ xs) m ys q h g = (h.0, h.1, joined ps x xs m ys q h.2 g)

  reach_sound : (ps : List ℕ) (x y : ℕ) → reach ps x y ≡ true → (xs : List ℕ) × PathIn ps x xs y
  reach_sound [] x y h = ([], eqb-true x y h)
  reach_sound (a ∷ ps) x y h = elim (or_cases (reach ps x y) (reach ps x a && list_any (λ z. edge a z && reach ps z y) (next a)) h) [
    | inl old ↦ let r = reach_sound ps x y old in (r.0, wider a ps x r.0 y r.1)
    | inr both ↦
        let parts = and_parts (reach ps x a) (list_any (λ z. edge a z && reach ps z y) (next a)) both in
        let z = in_any (λ z. edge a z && reach ps z y) (next a) parts.1 in
        let on = and_parts (edge a z.0) (reach ps z.0 y) z.2 in
        let front = reach_sound ps x a parts.0 in
        let back = reach_sound ps z.0 y on.1 in (
          front.0 ++ (z.0 ∷ back.0),
          joined (a ∷ ps) x front.0 a (z.0 ∷ back.0) y (wider a ps x front.0 a front.1)
              (ap (λ t. t || in_list ps a) (eq-eqb a a refl), on.0, wider a ps z.0 back.0 y back.1),
        )
  ]

  reach_complete : (ps : List ℕ) (x : ℕ) (xs : List ℕ) (y : ℕ) → PathIn ps x xs y → reach ps x y ≡ true
  reach_complete [] x [] y h = eq-eqb x y h
  reach_complete [] x (z ∷ zs) y h = absurd (true≢false (sym h.0))
  reach_complete (a ∷ ps) x [] y h = ap (λ t. t || (reach ps x a && list_any (λ z. edge a z && reach ps z y) (next a))) (reach_complete ps x [] y h)
  reach_complete (a ∷ ps) x (z ∷ zs) y h =
      let more = or_cases (reach ps z y) (reach ps z a && list_any (λ q. edge a q && reach ps q y) (next a)) (reach_complete (a ∷ ps) z zs y h.2) in
      elim (cases_eq a x) [
        | inl same ↦ second (reach_complete ps x [] a (sym same)) (elim more [
          | inl on ↦ any_in (λ q. edge a q && reach ps q y) (next a) z (listed a z (ap (λ t. edge t z) same ∙ h.1)) (and_both (edge a z) (reach ps z y) (ap (λ t. edge t z) same ∙ h.1) on)
          | inr both ↦ (and_parts (reach ps z a) (list_any (λ q. edge a q && reach ps q y) (next a)) both).1
        ])
        | inr other ↦
            let low : in_list ps x ≡ true = elim (or_cases (a == x) (in_list ps x) h.0) [ inl e ↦ absurd (other (eqb-true a x e)) | inr m ↦ m ] in
            elim more [
              | inl on ↦ let r = reach_sound ps z y on in ap (λ t. t || (reach ps x a && list_any (λ q. edge a q && reach ps q y) (next a))) (reach_complete ps x (z ∷ r.0) y (low, h.1, r.1))
              | inr both ↦
                  let parts = and_parts (reach ps z a) (list_any (λ q. edge a q && reach ps q y) (next a)) both in
                  let r = reach_sound ps z a parts.0 in
                  second (reach_complete ps x (z ∷ r.0) a (low, h.1, r.1)) parts.1
            ]
      ]
    where
      second : reach ps x a ≡ true → list_any (λ q. edge a q && reach ps q y) (next a) ≡ true → reach (a ∷ ps) x y ≡ true
      second h g = ap (λ t. reach ps x y || t) (and_both (reach ps x a) (list_any (λ q. edge a q && reach ps q y) (next a)) h g) ∙ or_yes (reach ps x y)

-- ---- pairs, each once
pub in_front : (x : ℕ × ℕ) (xs ys : List (ℕ × ℕ)) → In x xs → In x (xs ++ ys)
in_front x [] ys h = absurd h
in_front x (y ∷ xs) ys (inl e) = inl e
in_front x (y ∷ xs) ys (inr m) = inr (in_front x xs ys m)

pub in_back : (x : ℕ × ℕ) (xs ys : List (ℕ × ℕ)) → In x ys → In x (xs ++ ys)
in_back x [] ys h = h
in_back x (y ∷ xs) ys h = inr (in_back x xs ys h)

pair_is : (x y : ℕ × ℕ) → same_pair x y ≡ true → x ≡ y
pair_is (a, b) (c, d) h =
    let parts = and_parts (a == c) (b == d) h in
    let e = eqb-true a c parts.0 in let f = eqb-true b d parts.1 in
    (λ t. (e t, f t))

in_has : (x : ℕ × ℕ) (xs : List (ℕ × ℕ)) → has x xs ≡ true → In x xs
in_has x [] h = absurd (true≢false (sym h))
in_has x (y ∷ ys) h = elim (or_cases (same_pair y x) (has x ys) h) [ inl e ↦ inl (pair_is y x e) | inr m ↦ inr (in_has x ys m) ]

has_in : (x : ℕ × ℕ) (xs : List (ℕ × ℕ)) → In x xs → has x xs ≡ true
has_in x [] h = absurd h
has_in x (y ∷ ys) (inl e) = ap (λ z. z || has x ys) (and_both (y.0 == x.0) (y.1 == x.1) (eq-eqb y.0 x.0 (ap (λ p. p.0) e)) (eq-eqb y.1 x.1 (ap (λ p. p.1) e)))
has_in x (y ∷ ys) (inr m) = ap (λ z. same_pair y x || z) (has_in x ys m) ∙ or_yes (same_pair y x)

pub in_once : (x : ℕ × ℕ) (xs : List (ℕ × ℕ)) → In x xs → In x (each_once xs)
in_once x [] h = absurd h
in_once x (y ∷ ys) h = go (in_once x ys) (has y ys) refl h
  where
    go : (In x ys → In x (each_once ys)) → (z : Bool) → has y ys ≡ z → In x (y ∷ ys) → In x (if z then each_once ys else y ∷ each_once ys)
    go f true e (inl g) = f (subst (λ q. In q ys) g (in_has y ys e))
    go f true e (inr m) = f m
    go f false e (inl g) = inl g
    go f false e (inr m) = inr (f m)

once_in : (x : ℕ × ℕ) (xs : List (ℕ × ℕ)) → In x (each_once xs) → In x xs
once_in x [] h = absurd h
once_in x (y ∷ ys) h = go (once_in x ys) (has y ys) h
  where
    go : (In x (each_once ys) → In x ys) → (z : Bool) → In x (if z then each_once ys else y ∷ each_once ys) → In x (y ∷ ys)
    go f true m = inr (f m)
    go f false (inl g) = inl g
    go f false (inr m) = inr (f m)

-- ---- a site whose blocked processes are listed
abbrev Lists : (ℕ → ℕ) → ℕ → State → List ℕ → Type 0
Lists home s v ps = (j : ℕ) → home j ≡ s → is_blocked v j ≡ true → in_list ps j ≡ true

module _ (home : ℕ → ℕ) (s : ℕ) (v : State) (ps : List ℕ) (lists : Lists home s v ps) (n i : ℕ) where
  abbrev edge_at : ℕ → ℕ → Bool
  edge_at x y = counts v n i x y && (home y == s)

  edge_listed : (x y : ℕ) → edge_at x y ≡ true → in_list (v.waits x) y ≡ true
  edge_listed x y h = (and_parts (waits_for v x y) _ (and_parts (counts v n i x y) (home y == s) h).0).0

  abbrev reaches : ℕ → ℕ → Bool
  reaches x y = reach edge_at v.waits edge_listed ps x y

  to_in : (p : ℕ) (xs : List ℕ) (q : ℕ) → home p ≡ s → IsLocalPath home s v n i p xs q → PathIn edge_at v.waits edge_listed ps p xs q
  to_in p [] q at h = h
  to_in p (x ∷ xs) q at h = (
    lists p at (in_some (v.waits p) x (and_parts (waits_for v p x) _ h.0).0),
    and_both (counts v n i p x) (home x == s) h.0 (eq-eqb (home x) s h.1),
    to_in x xs q h.1 h.2,
  )

  from_in : (p : ℕ) (xs : List ℕ) (q : ℕ) → PathIn edge_at v.waits edge_listed ps p xs q → IsLocalPath home s v n i p xs q
  from_in p [] q h = h
  from_in p (x ∷ xs) q h = let parts = and_parts (counts v n i p x) (home x == s) h.1 in (parts.0, eqb-true (home x) s parts.1, from_in x xs q h.2)

  reaches_yes : (p q : ℕ) → reaches p q ≡ true → ReachesLocally home s v n i p q
  reaches_yes p q h = let r = reach_sound edge_at v.waits edge_listed ps p q h in (r.0, from_in p r.0 q r.1)

  yes_reaches : (p q : ℕ) → home p ≡ s → ReachesLocally home s v n i p q → reaches p q ≡ true
  yes_reaches p q at h = reach_complete edge_at v.waits edge_listed ps p h.0 q (to_in p h.0 q at h.1)

  abbrev row : ℕ → List ℕ → List (ℕ × ℕ)
  row j [] = []
  row j (k ∷ ks) = if counts v n i j k && not (home k == s) then (j, k) ∷ row j ks else row j ks

  abbrev rows : ℕ → List ℕ → List (ℕ × ℕ)
  rows p [] = []
  rows p (j ∷ js) = if reaches p j then row j (v.waits j) ++ rows p js else rows p js

  in_row : (j k : ℕ) (ks : List ℕ) → in_list ks k ≡ true → counts v n i j k ≡ true → home k ≢ s → In (j, k) (row j ks)
  in_row j k [] h c far = absurd (true≢false (sym h))
  in_row j k (q ∷ qs) h c far = go (λ m. in_row j k qs m c far) (counts v n i j q && not (home q == s)) refl (or_cases (q == k) (in_list qs k) h)
    where
      go : (in_list qs k ≡ true → In (j, k) (row j qs)) → (z : Bool) → (counts v n i j q && not (home q == s)) ≡ z → ((q == k) ≡ true) ⊎ (in_list qs k ≡ true) → In (j, k) (if z then (j, q) ∷ row j qs else row j qs)
      go f true e (inl g) = let same = eqb-true q k g in inl (λ t. (j, same t))
      go f true e (inr m) = inr (f m)
      go f false e (inl g) = absurd (true≢false (sym (and_both (counts v n i j q) (not (home q == s)) (ap (counts v n i j) (eqb-true q k g) ∙ c) (ap not (ap (λ t. home t == s) (eqb-true q k g) ∙ ne_eqb (home k) s far))) ∙ e))
      go f false e (inr m) = f m

  row_is : (j : ℕ) (ks : List ℕ) (x : ℕ × ℕ) → In x (row j ks) → (x.0 ≡ j) × (counts v n i j x.1 ≡ true) × (home x.1 ≢ s)
  row_is j [] x h = absurd h
  row_is j (q ∷ qs) x h = go (row_is j qs x) (counts v n i j q && not (home q == s)) refl h
    where
      away : (z : Bool) → (home q == s) ≡ z → not z ≡ true → home q ≢ s
      away true e h g = true≢false (sym h)
      away false e h g = true≢false (sym (eq-eqb (home q) s g) ∙ e)

      go : (In x (row j qs) → (x.0 ≡ j) × (counts v n i j x.1 ≡ true) × (home x.1 ≢ s))
          → (z : Bool) → (counts v n i j q && not (home q == s)) ≡ z → In x (if z then (j, q) ∷ row j qs else row j qs) → (x.0 ≡ j) × (counts v n i j x.1 ≡ true) × (home x.1 ≢ s)
      go f true e (inl g) =
          let parts = and_parts (counts v n i j q) (not (home q == s)) e in
          let is = ap (λ p. p.1) g in
          (sym (ap (λ p. p.0) g), sym (ap (counts v n i j) is) ∙ parts.0, subst (λ t. home t ≢ s) is (away (home q == s) refl parts.1))
      go f true e (inr m) = f m
      go f false e m = f m

  in_rows : (p j k : ℕ) (js : List ℕ) → in_list js j ≡ true → reaches p j ≡ true → counts v n i j k ≡ true → home k ≢ s → In (j, k) (rows p js)
  in_rows p j k [] h r c far = absurd (true≢false (sym h))
  in_rows p j k (q ∷ qs) h r c far = go (λ m. in_rows p j k qs m r c far) (reaches p q) refl (or_cases (q == j) (in_list qs j) h)
    where
      go : (in_list qs j ≡ true → In (j, k) (rows p qs)) → (z : Bool) → reaches p q ≡ z → ((q == j) ≡ true) ⊎ (in_list qs j ≡ true) → In (j, k) (if z then row q (v.waits q) ++ rows p qs else rows p qs)
      go f true e (inl g) =
          in_front (j, k) (row q (v.waits q)) (rows p qs) (subst (λ t. In (j, k) (row t (v.waits t))) (sym (eqb-true q j g)) (in_row j k (v.waits j) (and_parts (waits_for v j k) _ c).0 c far))
      go f true e (inr m) = in_back (j, k) (row q (v.waits q)) (rows p qs) (f m)
      go f false e (inl g) = absurd (true≢false (sym (ap (reaches p) (eqb-true q j g) ∙ r) ∙ e))
      go f false e (inr m) = f m

  split_in : (x : ℕ × ℕ) (xs ys : List (ℕ × ℕ)) → In x (xs ++ ys) → In x xs ⊎ In x ys
  split_in x [] ys h = inr h
  split_in x (y ∷ xs) ys (inl e) = inl (inl e)
  split_in x (y ∷ xs) ys (inr m) = elim (split_in x xs ys m) [ inl a ↦ inl (inr a) | inr b ↦ inr b ]

  rows_are : (p : ℕ) (js : List ℕ) (x : ℕ × ℕ) → In x (rows p js) → (reaches p x.0 ≡ true) × (counts v n i x.0 x.1 ≡ true) × (home x.1 ≢ s)
  rows_are p [] x h = absurd h
  rows_are p (q ∷ qs) x h = go (rows_are p qs x) (reaches p q) refl h
    where
      go : (In x (rows p qs) → (reaches p x.0 ≡ true) × (counts v n i x.0 x.1 ≡ true) × (home x.1 ≢ s)) → (z : Bool) → reaches p q ≡ z → In x (if z then row q (v.waits q) ++ rows p qs else rows p qs) → (reaches p x.0 ≡ true) × (counts v n i x.0 x.1 ≡ true) × (home x.1 ≢ s)
      go f true e m = elim (split_in x (row q (v.waits q)) (rows p qs) m) [
        | inl a ↦ let r = row_is q (v.waits q) x a in (ap (reaches p) r.0 ∙ e, ap (λ t. counts v n i t x.1) r.0 ∙ r.1, r.2)
        | inr b ↦ f b
      ]
      go f false e m = f m

  is_edge : (p : ℕ) → home p ≡ s → (x : ℕ × ℕ) → In x (rows p ps) ↔ IsEdge home s v n i p x
  is_edge p at x = (
    λ m. let r = rows_are p ps x m in (reaches_yes p x.0 r.0, r.1, r.2),
    λ h.
        let at_j : home x.0 ≡ s = path_home home s v n i p h.0.0 x.0 at h.0.1 in
        in_rows p x.0 x.1 ps (lists x.0 at_j (in_some (v.waits x.0) x.1 (and_parts (waits_for v x.0 x.1) _ h.1).0)) (yes_reaches p x.0 at h.0) h.1 h.2,
  )

  abbrev probes : ℕ → ℕ → List (ℕ × Message)
  probes c p = map (probe_along home c i n) (sorted (rows p ps))

  probes_for : (c p : ℕ) → home p ≡ s → AreProbes home s v c i n p (probes c p)
  probes_for c p at = record {
    edges = sorted (rows p ps);
    ascending = sorted_sorted (rows p ps);
    all = λ x. (
      λ h. (is_edge p at x).0 (sorted_from x (rows p ps) (contains_in x (sorted (rows p ps)) h)),
      λ h. in_contains x (sorted (rows p ps)) (sorted_to x (rows p ps) ((is_edge p at x).1 h)),
    );
    are = refl;
  }

  outcome : (D : Type 0) → D ⊎ (D → ⊥) → (c p : ℕ) → home p ≡ s → (sent : List (ℕ × Message)) × (d : Option ℕ) × DeclaresOrProbes home D s v c i n p sent d
  outcome D (inl y) c p at = ([], newly v i, inl (y, refl, refl))
  outcome D (inr no') c p at = (probes c p, None, inr (no', probes_for c p at, refl))

  reaches_or_not : (p q : ℕ) → home p ≡ s → (b : Bool) → (ReachesLocally home s v n i p q × (b ≡ true)) ⊎ (ReachesLocally home s v n i p q × (b ≡ true) → ⊥)
  reaches_or_not p q at false = inr (λ h. true≢false (sym h.1))
  reaches_or_not p q at true = elim (cases_Bool (reaches p q)) [
    | inl y ↦ inl (reaches_yes p q y, refl)
    | inr no' ↦ inr (λ h. true≢false (sym (yes_reaches p q at h.0) ∙ no'))
  ]

  depends_or_not : home i ≡ s → DependsOnItself home s v n i ⊎ (DependsOnItself home s v n i → ⊥)
  depends_or_not at = elim (cases_Bool (list_any (λ z. edge_at i z && reaches z i) (v.waits i))) [
    | inl y ↦
        let r = in_any (λ z. edge_at i z && reaches z i) (v.waits i) y in
        let parts = and_parts (edge_at i r.0) (reaches r.0 i) r.2 in
        let edge = and_parts (counts v n i i r.0) (home r.0 == s) parts.0 in
        let on = reaches_yes r.0 i parts.1 in
        inl (r.0, on.0, (edge.0, eqb-true (home r.0) s edge.1, on.1))
    | inr no' ↦ inr (λ h.
        let e = and_both (counts v n i i h.0) (home h.0 == s) h.2.0 (eq-eqb (home h.0) s h.2.1) in
        true≢false (sym (any_in (λ z. edge_at i z && reaches z i) (v.waits i) h.0 (edge_listed i h.0 e) (and_both (edge_at i h.0) (reaches h.0 i) e (yes_reaches h.0 i h.2.1 (h.1, h.2.2)))) ∙ no'))
  ]

some_sends : (home : ℕ → ℕ) (s : ℕ) (v : State) (ps : List ℕ) → Lists home s v ps → (ev : Event) → Accepts home s v ev → (sent : List (ℕ × Message)) × (d : Option ℕ) × Sends home s v ev sent d
some_sends home s v ps lists (Ask j ks) acc =
    let u : State = changed home s v (Ask j ks) in
    let more : Lists home s u (j ∷ ps) = λ q at b. elim (cases_eq q j) [
      | inl e ↦ ap (λ z. z || in_list ps q) (eq-eqb j q (sym e))
      | inr far ↦ ap (λ z. (j == q) || z) (lists q at (ap is_nonempty (sym (ap (λ z. if z then with_each (v.waits j) ks else v.waits q) (ne_eqb q j far))) ∙ b)) ∙ or_yes (j == q)
    ] in
    let r = outcome home s u (j ∷ ps) more (v.clock + 1) j (DependsOnItself home s u (v.clock + 1) j) (depends_or_not home s u (j ∷ ps) more (v.clock + 1) j acc.0) (v.clock + 1) j acc.0 in
    (requests home s (v.clock + 1) j ks ++ r.0, r.1, (r.0, refl, r.2))
some_sends home s v ps lists (Reply k j) acc = ((if home j == s then [] else (home j, record { clock = v.clock; frame = Reply_frame k j }) ∷ []), None, (refl, refl))
some_sends home s v ps lists (Withdraw j ks) acc = (withdraws home s v.clock j ks, None, (refl, refl))
some_sends home s v ps lists (Turn d) acc = ([], None, (refl, refl))
some_sends home s v ps lists (Got a c (Request j k)) acc = ([], None, (refl, refl))
some_sends home s v ps lists (Got a c (Reply_frame k j)) acc = ([], None, (refl, refl))
some_sends home s v ps lists (Got a c (Withdraw_frame j k)) acc = ((if v.owed k j then (a, record { clock = max v.clock c; frame = Reply_frame k j }) ∷ [] else []), None, (refl, refl))
some_sends home s v ps lists (Got a c (Probe i n j k)) acc = go (probe_acts v i n j k)
  where
    go : (z : Bool) → (sent : List (ℕ × Message)) × (d : Option ℕ)
        × MatchBool z (DeclaresOrProbes home (ReachesLocally home s v n i k i × (passes v n i i ≡ true)) s v (max v.clock c) i n k sent d) ((sent ≡ []) × (d ≡ None))
    go true = outcome home s v ps lists n i (ReachesLocally home s v n i k i × (passes v n i i ≡ true)) (reaches_or_not home s v ps lists n i k i acc.2 (passes v n i i)) (max v.clock c) k acc.2
    go false = ([], None, (refl, refl))

-- ---- in a run who waits has asked
begins_asker : (j k : ℕ) (ev : Event) → begins j k ev ≡ true → in_list (asker_of ev) j ≡ true
begins_asker j k (Ask i ks) h = ap (λ z. z || false) (and_parts (i == j) (in_list ks k) h).0
begins_asker j k (Reply x i) h = absurd (true≢false (sym h))
begins_asker j k (Withdraw i ks) h = absurd (true≢false (sym h))
begins_asker j k (Turn d) h = absurd (true≢false (sym h))
begins_asker j k (Got a c f) h = absurd (true≢false (sym h))

blocked_was : (home : ℕ → ℕ) (w : World) (e : WorldEvent) (n : World) → Step home w e n → (j : ℕ) → is_blocked (n.value (home j)) j ≡ true
    → (in_list (asker_of e.entry.event) j ≡ true) ⊎ (is_blocked (w.value (home j)) j ≡ true)
blocked_was home w e n st j h = elim (cases_eq (home j) e.site) [
  | inr far ↦ inr (sym (ap (λ v. is_blocked v j) (st.elsewhere (home j) far)) ∙ h)
  | inl at ↦
      let r = some_in ((n.value (home j)).waits j) h in
      let now : waits_for (changed home e.site (w.value e.site) e.entry.event) j r.0 ≡ true = sym (ap (λ v. waits_for v j r.0) st.here) ∙ sym (ap (λ z. waits_for (n.value z) j r.0) at) ∙ r.1 in
      elim (asker_move home e.site (w.value e.site) j r.0 e.entry.event st.accepted at now) [
        | inl b ↦ inl (begins_asker j r.0 e.entry.event b.0)
        | inr o ↦ inr (ap (λ z. is_blocked (w.value z) j) at ∙ in_some ((w.value e.site).waits j) r.0 o.0)
      ]
]

pub askers-append : (xs ys : List WorldEvent) → askers (xs ++ ys) ≡ askers xs ++ askers ys
askers-append [] ys = refl
askers-append (x ∷ xs) ys = ap (λ l. asker_of x.entry.event ++ l) (askers-append xs ys) ∙ sym (append_assoc (asker_of x.entry.event) (askers xs) (askers ys))

askers_on : (home : ℕ → ℕ) (before rest : List WorldEvent) → IsRun home (before ++ rest)
    → ((j : ℕ) → is_blocked (state_of home (home j) before) j ≡ true → in_list (askers before) j ≡ true)
    → (j : ℕ) → is_blocked (state_of home (home j) (before ++ rest)) j ≡ true → in_list (askers (before ++ rest)) j ≡ true
askers_on home before [] run h j b = ap (λ l. in_list (askers l) j) (append-nil before) ∙ h j (ap (λ l. is_blocked (state_of home (home j) l) j) (sym (append-nil before)) ∙ b)
askers_on home before (e ∷ rest) run h j b =
    let same = append_assoc before (e ∷ []) rest in
    let step = one_step home before e rest run in
    ap (λ l. in_list (askers l) j) (sym same)
    ∙ askers_on home (before ++ e ∷ []) rest (subst (IsRun home) (sym same) run)
    (λ q g. ap (λ l. in_list l q) (askers-append before (e ∷ [])) ∙ in_joined (askers before) (askers (e ∷ [])) q ∙ elim (blocked_was home (world_of home before) e (world_of home (before ++ e ∷ [])) step q g) [
      | inl new ↦ ap (λ z. in_list (askers before) q || z) (ap (λ l. in_list l q) (append-nil (asker_of e.entry.event)) ∙ new) ∙ or_yes (in_list (askers before) q)
      | inr old ↦ ap (λ z. z || in_list (askers (e ∷ [])) q) (h q old)
    ])
    j (ap (λ l. is_blocked (state_of home (home j) l) j) same ∙ b)

pub askers_list : (home : ℕ → ℕ) (events : List WorldEvent) → IsRun home events → (j : ℕ) → is_blocked (state_of home (home j) events) j ≡ true → in_list (askers events) j ≡ true
askers_list home events run = askers_on home [] events run (λ j b. absurd (true≢false (sym b)))

pub some_outcome : SomeOutcome
some_outcome home events run s ev acc =
    some_sends home s (state_of home s events) (askers events) (λ j at b. askers_list home events run j (ap (λ z. is_blocked (state_of home z events) j) at ∙ b)) ev acc

pub runs_go_on : RunsGoOn
runs_go_on home events run = (
  (λ s ev acc none.
      let r = some_outcome home events run s ev acc in
      (r.0, r.1, extends_run home events (record { site = s; entry = record { event = ev; sent = r.0; declared = r.1 } }) run acc r.2 (λ a. (under_way a s events, ap (λ l. l ++ under_way a s events) (sym (none a)))))),
  (λ a b m behind h.
      let acc = deliveries_accepted home events run a b m behind h in
      let r = some_outcome home events run b (Got a m.clock m.frame) acc in
      (r.0, r.1, extends_run home events (record { site = b; entry = record { event = Got a m.clock m.frame; sent = r.0; declared = r.1 } }) run acc r.2 (λ x. next a b m behind h x))),
)
  where
    next : (a b : ℕ) (m : Message) (behind : List Message) → under_way a b events ≡ m ∷ behind → (x : ℕ) → (rest : List Message) × (under_way x b events ≡ message_from x (Got a m.clock m.frame) ++ rest)
    next a b m behind h x = elim (cases_eq a x) [
      | inl e ↦ (behind, ap (λ z. under_way z b events) (sym e) ∙ h ∙ ap (λ z. (if z then m ∷ [] else []) ++ behind) (sym (eq-eqb a x e)))
      | inr far ↦ (under_way x b events, ap (λ z. (if z then m ∷ [] else []) ++ under_way x b events) (sym (ne_eqb a x far)))
    ]

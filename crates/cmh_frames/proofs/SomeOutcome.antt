-- The rules give an outcome of each event, whatever the state.
use Rattle.std.proofs.Common.{◌≡◌, ◌≢◌, ◌⊎◌, ◌↔◌, ℕ, Bool, true, false, not, ◌&&◌, List, [], ◌∷◌, ◌++◌, map, Contains, ◌==◌, refl, sym, ap, ◌∙◌, subst, inl, inr, true≢false, Option, None, Some, Ordering, Less, Equal, Greater, is_eq}
use Rattle.std.specs.List.{AllByRecursion}
use Rattle.std.specs.List.Sorted.{IsStrictlySortedBy}
use Rattle.std.specs.Ordering.{eq_by_cmp, ordering_reverse}
use Rattle.std.specs.FinSet as set
use Rattle.std.proofs.lemmas.Bool.{and_parts, and_from, cases_Bool, eq-eqb, ne_eqb}
use Rattle.std.proofs.lemmas.Cmp.{eq_by_cmp_equiv}
use Rattle.std.proofs.lemmas.Map.Keys.{sorted_head, sorted_tail}
use Rattle.std.proofs.lemmas.Map.Views.{Contains-from_any, list_any-from_Contains}
use Rattle.cmh_frames.specs.declared.frame.Frame.{Frame}
use Rattle.cmh_frames.specs.declared.frame.Frame.TheVariants.{Request, Reply as Reply_frame, Probe}
use Rattle.cmh_frames.specs.declared.event.Event.TheVariants.{Ask, Reply, Start, Got}
use Rattle.cmh_frames.specs.Edition.{starts_at_ask}
use Rattle.cmh_frames.specs.Topology.{Topology, home, site_of}
use Rattle.cmh_frames.specs.Relation.{Relation, pair_cmp, has}
use Rattle.cmh_frames.specs.State.{State}
use Rattle.cmh_frames.specs.Rules.{Starts, DeclaresOrProbes, AreProbes, IsEdgeFrom, after, requests, replies, probe_acts, Sends}
use Rattle.cmh_frames.proofs.Words.{newly}
use Rattle.cmh_frames.specs.Paths.{ReachesLocally, DependsOnItself}
use Rattle.cmh_frames.proofs.Choices.{match_true, match_false}
use Rattle.cmh_frames.proofs.Outcomes.{In, in_contains, contains_in, below_each}
use Rattle.cmh_frames.proofs.Pairs.{pair_cmp_total, pair_cmp_exact}
use Rattle.cmh_frames.proofs.Reached.{reaches, reaches_means, reaches_from, reach_decided, dependence_decided}
use Rattle.cmh_frames.specs.declared.event.Event.{Event}

-- ---- pairs in order

-- the list with one more pair in its place
abbrev placed : Ordering → ℕ × ℕ → ℕ × ℕ → List (ℕ × ℕ) → List (ℕ × ℕ) → List (ℕ × ℕ)
placed Less x y ys more = x ∷ y ∷ ys
placed Equal x y ys more = y ∷ ys
placed Greater x y ys more = y ∷ more

abbrev put : ℕ × ℕ → List (ℕ × ℕ) → List (ℕ × ℕ)
put x [] = x ∷ []
put x (y ∷ ys) = placed (pair_cmp x y) x y ys (put x ys)

-- what is in it was there or is the new one
put_from : (x p : ℕ × ℕ) (ys : List (ℕ × ℕ)) → In p (put x ys) → (p ≡ x) ⊎ In p ys
put_from x p [] h = h
put_from x p (y ∷ ys) h = go (pair_cmp x y) h (put_from x p ys)
  where
    go : (o : Ordering) → In p (placed o x y ys (put x ys)) → (In p (put x ys) → (p ≡ x) ⊎ In p ys) → (p ≡ x) ⊎ In p (y ∷ ys)
    go Less h more = h
    go Equal h more = inr h
    go Greater (inl e) more = inr (inl e)
    go Greater (inr h) more = elim (more h) [ inl e ↦ inl e | inr g ↦ inr (inr g) ]

-- what was there is in it, and so is the new one
put_to : (x p : ℕ × ℕ) (ys : List (ℕ × ℕ)) → (p ≡ x) ⊎ In p ys → In p (put x ys)
put_to x p [] h = h
put_to x p (y ∷ ys) h = go (pair_cmp x y) refl h (put_to x p ys)
  where
    go : (o : Ordering) → pair_cmp x y ≡ o → (p ≡ x) ⊎ In p (y ∷ ys) → ((p ≡ x) ⊎ In p ys → In p (put x ys)) → In p (placed o x y ys (put x ys))
    go Less is h more = h
    go Equal is (inl e) more = inl (e ∙ pair_cmp_exact x y is)
    go Equal is (inr h) more = h
    go Greater is (inl e) more = inr (more (inl e))
    go Greater is (inr (inl e)) more = inl e
    go Greater is (inr (inr h)) more = inr (more (inr h))

-- what is below each member is below all
all_below : (x : ℕ × ℕ) (ys : List (ℕ × ℕ)) → ((p : ℕ × ℕ) → In p ys → pair_cmp x p ≡ Less) → AllByRecursion (λ y. pair_cmp x y ≡ Less) ys
all_below x [] each = tt
all_below x (y ∷ ys) each = (each y (inl refl), all_below x ys (λ p h. each p (inr h)))

sorted_cons : (x : ℕ × ℕ) (xs : List (ℕ × ℕ)) → AllByRecursion (λ y. pair_cmp x y ≡ Less) xs → IsStrictlySortedBy pair_cmp xs → IsStrictlySortedBy pair_cmp (x ∷ xs)
unfolding IsStrictlySortedBy
sorted_cons x xs a b = (a, b)

sorted_nil : IsStrictlySortedBy pair_cmp []
unfolding IsStrictlySortedBy
sorted_nil = tt

-- it is in order
put_sorted : (x : ℕ × ℕ) (ys : List (ℕ × ℕ)) → IsStrictlySortedBy pair_cmp ys → IsStrictlySortedBy pair_cmp (put x ys)
put_sorted x [] up = sorted_cons x [] tt sorted_nil
put_sorted x (y ∷ ys) up = go (pair_cmp x y) refl (put_sorted x ys (sorted_tail pair_cmp y ys up))
  where
    below : AllByRecursion (λ z. pair_cmp y z ≡ Less) ys
    below = sorted_head pair_cmp y ys up

    go : (o : Ordering) → pair_cmp x y ≡ o → IsStrictlySortedBy pair_cmp (put x ys) → IsStrictlySortedBy pair_cmp (placed o x y ys (put x ys))
    go Less is more = sorted_cons x (y ∷ ys) (is, all_below x ys (λ p h. pair_cmp_total.trans x y p is (below_each y p ys below h))) up
    go Equal is more = up
    go Greater is more =
        let less : pair_cmp y x ≡ Less = pair_cmp_total.antisymm y x ∙ ap ordering_reverse is in
        sorted_cons y (put x ys)
        (all_below y (put x ys) (λ p h. elim (put_from x p ys h) [ inl e ↦ subst (λ z. pair_cmp y z ≡ Less) (sym e) less | inr old ↦ below_each y p ys below old ]))
        more

-- the pairs that pass the test, in order
abbrev put_if : Bool → ℕ × ℕ → List (ℕ × ℕ) → List (ℕ × ℕ)
put_if true x xs = put x xs
put_if false x xs = xs

abbrev chosen : (ℕ × ℕ → Bool) → List (ℕ × ℕ) → List (ℕ × ℕ)
chosen test [] = []
chosen test (x ∷ xs) = put_if (test x) x (chosen test xs)

chosen_sorted : (test : ℕ × ℕ → Bool) (xs : List (ℕ × ℕ)) → IsStrictlySortedBy pair_cmp (chosen test xs)
chosen_sorted test [] = sorted_nil
chosen_sorted test (x ∷ xs) = go (test x) (chosen_sorted test xs)
  where
    go : (b : Bool) → IsStrictlySortedBy pair_cmp (chosen test xs) → IsStrictlySortedBy pair_cmp (put_if b x (chosen test xs))
    go true up = put_sorted x (chosen test xs) up
    go false up = up

chosen_from : (test : ℕ × ℕ → Bool) (p : ℕ × ℕ) (xs : List (ℕ × ℕ)) → In p (chosen test xs) → In p xs × (test p ≡ true)
chosen_from test p [] h = absurd h
chosen_from test p (x ∷ xs) h = go (test x) refl h (chosen_from test p xs)
  where
    go : (b : Bool) → test x ≡ b → In p (put_if b x (chosen test xs)) → (In p (chosen test xs) → In p xs × (test p ≡ true)) → In p (x ∷ xs) × (test p ≡ true)
    go true is h more = elim (put_from x p (chosen test xs) h) [
      | inl e ↦ (inl e, ap test e ∙ is)
      | inr g ↦ let r = more g in (inr r.0, r.1)
    ]
    go false is h more = let r = more h in (inr r.0, r.1)

chosen_to : (test : ℕ × ℕ → Bool) (p : ℕ × ℕ) (xs : List (ℕ × ℕ)) → In p xs → test p ≡ true → In p (chosen test xs)
chosen_to test p [] h passes = absurd h
chosen_to test p (x ∷ xs) h passes = go (test x) refl h (λ g. chosen_to test p xs g passes)
  where
    go : (b : Bool) → test x ≡ b → In p (x ∷ xs) → (In p xs → In p (chosen test xs)) → In p (put_if b x (chosen test xs))
    go true is (inl e) more = put_to x p (chosen test xs) (inl e)
    go true is (inr g) more = put_to x p (chosen test xs) (inr (more g))
    go false is (inl e) more = absurd (true≢false (sym passes ∙ ap test e ∙ is))
    go false is (inr g) more = more g

-- ---- the probes from a place

module _ (t : Topology) (s : ℕ) (waits : Relation) (origin from : ℕ) where
  away : Option ℕ → Bool
  away None = false
  away (Some b) = not (b == s)

  -- whether the wait is an edge of the probes
  leaves : ℕ × ℕ → Bool
  leaves edge = reaches t s waits from edge.0 && away (home t edge.1)

  away_means : (o : Option ℕ) → away o ≡ true → (b : ℕ) × (o ≡ Some b) × (b ≢ s)
  unfolding away
  away_means None h = absurd (true≢false (sym h))
  away_means (Some b) h = (b, refl, λ e. true≢false (sym h ∙ ap not (eq-eqb b s e)))

  away_from : (o : Option ℕ) (b : ℕ) → o ≡ Some b → b ≢ s → away o ≡ true
  unfolding away
  away_from o b is n = ap away is ∙ ap not (ne_eqb b s n)

  edges : List (ℕ × ℕ)
  edges = chosen leaves (set.items waits)

  item_is : (edge : ℕ × ℕ) → In edge (set.items waits) ↔ (has waits edge.0 edge.1 ≡ true)
  item_is edge = (
    λ h. set.contains-items waits edge ∙ list_any-from_Contains (eq_by_cmp_equiv pair_cmp_total) edge (set.items waits) (in_contains edge (set.items waits) h),
    λ h. contains_in edge (set.items waits) (Contains-from_any (λ x y e. pair_cmp_exact x y (tied x y e)) edge (set.items waits) (sym (set.contains-items waits edge) ∙ h)),
  )
    where
      equal : (o : Ordering) → is_eq o ≡ true → o ≡ Equal
      equal Less h = absurd (true≢false (sym h))
      equal Equal h = refl
      equal Greater h = absurd (true≢false (sym h))

      tied : (x y : ℕ × ℕ) → eq_by_cmp pair_cmp x y ≡ true → pair_cmp x y ≡ Equal
      tied x y e = equal (pair_cmp x y) e

  edge_means : (edge : ℕ × ℕ) → Contains edges edge → IsEdgeFrom t s waits from edge
  unfolding edges leaves
  edge_means edge c =
      let r = chosen_from leaves edge (set.items waits) (contains_in edge edges c) in
      let parts = and_parts (reaches t s waits from edge.0) (away (home t edge.1)) r.1 in
      (reaches_means t s waits from edge.0 parts.0, (item_is edge).0 r.0, away_means (home t edge.1) parts.1)

  edge_from : (edge : ℕ × ℕ) → IsEdgeFrom t s waits from edge → Contains edges edge
  unfolding edges leaves
  edge_from edge h =
      in_contains edge edges (chosen_to leaves edge (set.items waits) ((item_is edge).1 h.1)
      (and_from (reaches t s waits from edge.0) (away (home t edge.1)) (reaches_from t s waits from edge.0 h.0) (away_from (home t edge.1) h.2.0 h.2.1 h.2.2)))

  edges_ascend : IsStrictlySortedBy pair_cmp edges
  unfolding edges
  edges_ascend = chosen_sorted leaves (set.items waits)

  some_probes : (sent : List (ℕ × Frame)) × AreProbes t s waits origin from sent
  some_probes = (
    map (λ (edge : ℕ × ℕ). (site_of t edge.1, Probe (origin, edge.0, edge.1))) edges,
    record { edges = edges; ascending = edges_ascend; all = λ edge. (edge_means edge, edge_from edge); are = refl },
  )

-- what is decided has an answer
some_answer : (t : Topology) (s : ℕ) (v : State) (Deadlocked : Type 0) (origin from : ℕ) → Deadlocked ⊎ (Deadlocked → ⊥) → (sent : List (ℕ × Frame)) × (declared : Option ℕ) × DeclaresOrProbes t s v Deadlocked origin from sent declared
some_answer t s v Dl origin from (inl yes') = ([], newly v origin, inl (yes', refl, refl))
some_answer t s v Dl origin from (inr no') = let probes = some_probes t s v.waits origin from in (probes.0, None, inr (no', probes.1, refl))

-- a start has an outcome
some_start : (t : Topology) (s : ℕ) (v : State) (i : ℕ) → (sent : List (ℕ × Frame)) × (declared : Option ℕ) × Starts t s v i sent declared
some_start t s v i = some_answer t s v (DependsOnItself t s v.waits i) i i (dependence_decided t s v.waits i)

-- each event has an outcome
pub some_outcome : (t : Topology) (s : ℕ) (v : State) (event : Event) → (sent : List (ℕ × Frame)) × (declared : Option ℕ) × Sends t s v event sent declared
some_outcome t s v (Ask asker targets) = elim (cases_Bool (starts_at_ask t.edition)) [
  | inl e ↦
      let one = some_start t s (after t s v (Ask asker targets) None) asker in
      (requests t s asker targets ++ one.0, one.1, match_true (starts_at_ask t.edition) _ _ e (one.0, refl, one.2))
  | inr e ↦ (requests t s asker targets, None, match_false (starts_at_ask t.edition) _ _ e (refl, refl))
]
some_outcome t s v (Reply holder asker) = (replies t s holder asker, None, (refl, refl))
some_outcome t s v (Start i) = some_start t s v i
some_outcome t s v (Got a (Request (x, y))) = ([], None, (refl, refl))
some_outcome t s v (Got a (Reply_frame (x, y))) = ([], None, (refl, refl))
some_outcome t s v (Got a (Probe (o, f, to))) = elim (cases_Bool (probe_acts v o f to)) [
  | inl e ↦
      let one = some_answer t s v (ReachesLocally t s v.waits to o) o to (reach_decided t s v.waits to o) in
      (one.0, one.1, match_true (probe_acts v o f to) _ _ e one.2)
  | inr e ↦ ([], None, match_false (probe_acts v o f to) _ _ e (refl, refl))
]

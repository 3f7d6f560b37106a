-- What the search says of the state of the site.
use Rattle.std.proofs.Common.{◌≡◌, ◌↔◌, ℕ, ◌<◌, true, List, [], ◌∷◌, ◌++◌, length, get_or, nat_lt, refl, sym, ap, ◌∙◌, subst, true≢false}
use Rattle.std.proofs.lemmas.Bool.{eqb-true, eq-eqb, and_parts, and_from, false_from_ne_true, lt-ltb}
use Rattle.cmh_model3.specs.State.{State, counts, passes}
use Rattle.cmh_model3.specs.Paths.{IsLocalPath, IsPath, ReachesLocally}
use Rattle.cmh_model3.proofs.Outcomes.{counts_same}
use Rattle.cmh_waits3.specs.Findings.{AreEdges}
use Rattle.cmh_waits3.specs.Held.{AreWaitsOf, Held, is_member, state_of}
use Rattle.cmh_waits3.specs.Inner.Steps.{AreAwaited, AreMarkedEdges, AreReached, IsStep, has_place}
use Rattle.cmh_waits3.proofs.Lists.{at_in, in_at}
use Rattle.cmh_waits3.proofs.Searching.{path_further}

-- a path from a member ends at one
pub ends_here : (v : Held) (n i p : ℕ) (path : List ℕ) (q : ℕ) → is_member v p ≡ true → IsPath (IsStep v n i) p path q → is_member v q ≡ true
ends_here v n i p [] q here path = ap (is_member v) (sym path) ∙ here
ends_here v n i p (x ∷ xs) q here path = ends_here v n i x xs q path.0.1 path.1

-- the last step of a path of one or more
last_step : (R : ℕ → ℕ → Type 0) (p x : ℕ) (path : List ℕ) (q : ℕ) → R p x → IsPath R x path q → (y : ℕ) × ((front : List ℕ) × IsPath R p front y) × R y q
last_step R p x [] q step path = (p, ([], refl), subst (R p) path step)
last_step R p x (z ∷ more) q step path =
    let later = last_step R x z more q path.0 path.1 in
    (later.0, (x ∷ later.1.0, (step, later.1.1)), later.2)

module _ (v : Held) (n i from start : ℕ) (reached : List ℕ) (are : AreReached v n i from reached) (inside : start < length v.members) (at : get_or v.members start 0 ≡ from) where
  from_here : is_member v from ≡ true
  from_here = at_in v.members start from inside at

  -- where a path leads, a place is reached
  reached_at : (path : List ℕ) (q : ℕ) → IsPath (IsStep v n i) from path q → (k : ℕ) × (k < length v.members) × (get_or v.members k 0 ≡ q) × (has_place reached k ≡ true)
  reached_at path q leads_there =
      let place = in_at v.members q (ends_here v n i from path q from_here leads_there) in
      (place.0, place.1, place.2, (are place.0).1 (place.1, (path, subst (IsPath (IsStep v n i) from path) (sym place.2) leads_there)))

  -- and back
  path_to : (k q : ℕ) → get_or v.members k 0 ≡ q → has_place reached k ≡ true → (path : List ℕ) × IsPath (IsStep v n i) from path q
  path_to k q is set = subst (λ x. (path : List ℕ) × IsPath (IsStep v n i) from path x) is ((are k).0 set).1

  -- a wait that counts leads from what is reached back to the start just where a path of one or more does
  pub cycle_at : (awaited : List ℕ) → AreAwaited v n i reached awaited → (has_place awaited start ≡ true) ↔ ((next : ℕ) × (members : List ℕ) × IsPath (IsStep v n i) from (next ∷ members) from)
  cycle_at awaited awaits = (
    λ h.
        let a = (awaits start).0 h in
        let parts = and_parts (nat_lt start (length v.members)) (counts (state_of v) n i (get_or v.members a.0 0) (get_or v.members start 0)) a.2 in
        let path = path_to a.0 (get_or v.members a.0 0) refl a.1 in
        let step : IsStep v n i (get_or v.members a.0 0) from = (ap (counts (state_of v) n i (get_or v.members a.0 0)) (sym at) ∙ parts.1, from_here) in
        closed path.0 (get_or v.members a.0 0) path.1 step,
    λ d.
        let last = last_step (IsStep v n i) from d.0 d.1 from d.2.0 d.2.1 in
        let a = reached_at last.1.0 last.0 last.1.1 in
        (awaits start).1 (
          a.0,
          a.3,
          and_from (nat_lt start (length v.members)) (counts (state_of v) n i (get_or v.members a.0 0) (get_or v.members start 0)) (lt-ltb start (length v.members) inside)
              (ap (λ p. counts (state_of v) n i p (get_or v.members start 0)) a.2 ∙ ap (counts (state_of v) n i last.0) at ∙ last.2.0),
        ),
  )
    where
      closed : (path : List ℕ) (x : ℕ) → IsPath (IsStep v n i) from path x → IsStep v n i x from → (next : ℕ) × (members : List ℕ) × IsPath (IsStep v n i) from (next ∷ members) from
      closed [] x path step = (from, [], (subst (λ p. IsStep v n i p from) (sym path) step, refl))
      closed (y ∷ ys) x path step = (y, ys ++ from ∷ [], (path.0, path_further (IsStep v n i) y ys x from path.1 step))

-- ---- in the words of the model

module _ (home : ℕ → ℕ) (s : ℕ) (w : State) (v : Held) (are : AreWaitsOf home s w v) (n i : ℕ) where
  pub counts_is : (j k : ℕ) → counts w n i j k ≡ counts (state_of v) n i j k
  counts_is j k = counts_same w (state_of v) n i j k are.waits are.since

  home_of : (p : ℕ) → is_member v p ≡ true → home p ≡ s
  home_of p h = eqb-true (home p) s (are.members p ∙ h)

  at_home : (p : ℕ) → home p ≡ s → is_member v p ≡ true
  at_home p e = sym (are.members p) ∙ eq-eqb (home p) s e

  local_path : (p : ℕ) (path : List ℕ) (q : ℕ) → IsPath (IsStep v n i) p path q → IsLocalPath home s w n i p path q
  local_path p [] q h = h
  local_path p (x ∷ xs) q h = (counts_is p x ∙ h.0.0, home_of x h.0.1, local_path x xs q h.1)

  path_of : (p : ℕ) (path : List ℕ) (q : ℕ) → IsLocalPath home s w n i p path q → IsPath (IsStep v n i) p path q
  path_of p [] q h = h
  path_of p (x ∷ xs) q h = ((sym (counts_is p x) ∙ h.0, at_home x h.1), path_of x xs q h.2)

  pub passes_is : (k : ℕ) → passes w n i k ≡ passes (state_of v) n i k
  passes_is k = ap (λ (r : ℕ → List ℕ). passes (record w { waits = r }) n i k) are.waits ∙ ap (λ (r : ℕ → ℕ → ℕ). passes (record (state_of v) { since = r }) n i k) are.since

  module _ (from start : ℕ) (reached : List ℕ) (reaches : AreReached v n i from reached) (inside : start < length v.members) (at : get_or v.members start 0 ≡ from) where
    pub reaches_is : (q : ℕ) → ((k : ℕ) × (k < length v.members) × (get_or v.members k 0 ≡ q) × (has_place reached k ≡ true)) ↔ ReachesLocally home s w n i from q
    reaches_is q = (
      λ h. let path = path_to v n i from start reached reaches inside at h.0 q h.2 h.3 in (path.0, local_path from path.0 q path.1),
      λ h. reached_at v n i from start reached reaches inside at h.0 q (path_of from h.0 q h.1),
    )

    pub edges_are : (edges : List (ℕ × ℕ)) → AreMarkedEdges v n i reached edges → AreEdges home s w n i from edges
    edges_are edges marked = record {
      ascending = marked.ascending;
      all = λ e. (
        λ c.
            let h = (marked.all e).0 c in
            ((reaches_is e.0).0 (h.0, h.1, sym h.3, h.2), counts_is e.0 e.1 ∙ h.4, λ (f : home e.1 ≡ s). true≢false (sym (at_home e.1 f) ∙ h.5)),
        λ h.
            let a = (reaches_is e.0).1 h.0 in
            (marked.all e).1 (a.0, a.1, a.3, sym a.2, sym (counts_is e.0 e.1) ∙ h.1, false_from_ne_true (is_member v e.1) (λ m. h.2 (home_of e.1 m))),
      );
    }

  pub depends_is : (from : ℕ) → ((next : ℕ) × (members : List ℕ) × IsPath (IsStep v n i) from (next ∷ members) from) ↔ ((next : ℕ) × (members : List ℕ) × IsLocalPath home s w n i from (next ∷ members) from)
  depends_is from = (
    λ h. (h.0, h.1, local_path from (h.0 ∷ h.1) from h.2),
    λ h. (h.0, h.1, path_of from (h.0 ∷ h.1) from h.2),
  )

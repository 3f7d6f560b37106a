-- Whether a path leads from one process to another is decided edge by edge: a path goes without the first edge, or to it, along it and on without it.
use Rattle.std.proofs.Common.{◌≡◌, ◌⊎◌, ℕ, Bool, true, ◌&&◌, ◌||◌, List, [], ◌∷◌, ◌++◌, ◌==◌, refl, sym, ap, ◌∙◌, subst, inl, inr, true≢false}
use Rattle.std.specs.List.{list_any}
use Rattle.std.specs.Ordering.{eq_by_cmp}
use Rattle.std.specs.FinSet as set
use Rattle.std.proofs.lemmas.Bool.{eqb-true, eq-eqb, and_parts, and_from, or_cases, cases_Bool, or_left, or_right}
use Rattle.cmh_frames.specs.Topology.{Topology, is_at}
use Rattle.cmh_frames.specs.Relation.{Relation, pair_cmp, has}
use Rattle.cmh_frames.specs.Paths.{IsPath, WaitsLocally, ReachesLocally, DependsOnItself}
use Rattle.cmh_frames.proofs.Pairs.{same_pair, first_of_tied, second_of_tied}
use Rattle.cmh_frames.proofs.PathLemmas.{path_join}
use Rattle.cmh_frames.proofs.Places.{is_at-yes, at_from-is_at}

-- ---- edges in a list

-- the edge from a to b is one of the list
abbrev pub among : List (ℕ × ℕ) → ℕ → ℕ → Bool
among edges a b = list_any (eq_by_cmp pair_cmp (a, b)) edges

-- whether a path of listed edges leads from p to q
abbrev pub leads : List (ℕ × ℕ) → ℕ → ℕ → Bool
leads [] p q = p == q
leads (e ∷ es) p q = leads es p q || (leads es p e.0 && leads es e.1 q)

leads_itself : (es : List (ℕ × ℕ)) (p : ℕ) → leads es p p ≡ true
leads_itself [] p = eq-eqb p p refl
leads_itself (e ∷ es) p = or_left (leads es p p) (leads es p e.0 && leads es e.1 p) (leads_itself es p)

-- two paths, one after the other
leads_join : (es : List (ℕ × ℕ)) (p q r : ℕ) → leads es p q ≡ true → leads es q r ≡ true → leads es p r ≡ true
leads_join [] p q r h g = eq-eqb p r (eqb-true p q h ∙ eqb-true q r g)
leads_join (e ∷ es) p q r h g = elim (or_cases (leads es p q) (leads es p e.0 && leads es e.1 q) h) [
  | inl first ↦ elim (or_cases (leads es q r) (leads es q e.0 && leads es e.1 r) g) [
    | inl second ↦ or_left (leads es p r) (leads es p e.0 && leads es e.1 r) (leads_join es p q r first second)
    | inr second ↦
        let parts = and_parts (leads es q e.0) (leads es e.1 r) second in
        or_right (leads es p r) (leads es p e.0 && leads es e.1 r) (and_from (leads es p e.0) (leads es e.1 r) (leads_join es p q e.0 first parts.0) parts.1)
  ]
  | inr first ↦
      let to = and_parts (leads es p e.0) (leads es e.1 q) first in
      or_right (leads es p r) (leads es p e.0 && leads es e.1 r) (and_from (leads es p e.0) (leads es e.1 r) to.0 (elim (or_cases (leads es q r) (leads es q e.0 && leads es e.1 r) g) [
        | inl second ↦ leads_join es e.1 q r to.1 second
        | inr second ↦ (and_parts (leads es q e.0) (leads es e.1 r) second).1
      ]))
]

-- a listed edge leads on
leads_edge : (es : List (ℕ × ℕ)) (a b : ℕ) → among es a b ≡ true → leads es a b ≡ true
leads_edge [] a b h = absurd (true≢false (sym h))
leads_edge (e ∷ es) a b h = elim (or_cases (eq_by_cmp pair_cmp (a, b) e) (among es a b) h) [
  | inl is ↦
      let both = and_parts (a == e.0) (b == e.1) (sym (same_pair (a, b) e) ∙ is) in
      or_right (leads es a b) (leads es a e.0 && leads es e.1 b)
      (and_from (leads es a e.0) (leads es e.1 b) (subst (λ z. leads es a z ≡ true) (eqb-true a e.0 both.0) (leads_itself es a)) (subst (λ z. leads es z b ≡ true) (eqb-true b e.1 both.1) (leads_itself es b)))
  | inr later ↦ or_left (leads es a b) (leads es a e.0 && leads es e.1 b) (leads_edge es a b later)
]

module _ (R : ℕ → ℕ → Type 0) where
  -- a path of listed edges is one of R, where each listed edge is of R
  path_from : (es : List (ℕ × ℕ)) → ((a b : ℕ) → among es a b ≡ true → R a b) → (p q : ℕ) → leads es p q ≡ true → (members : List ℕ) × IsPath R p members q
  path_from [] each p q h = ([], eqb-true p q h)
  path_from (e ∷ es) each p q h = elim (or_cases (leads es p q) (leads es p e.0 && leads es e.1 q) h) [
    | inl without ↦ path_from es later p q without
    | inr along ↦
        let parts = and_parts (leads es p e.0) (leads es e.1 q) along in
        let to = path_from es later p e.0 parts.0 in
        let on = path_from es later e.1 q parts.1 in
        let here : R e.0 e.1 = each e.0 e.1 (or_left (eq_by_cmp pair_cmp (e.0, e.1) e) (among es e.0 e.1) (same_pair (e.0, e.1) e ∙ and_from (e.0 == e.0) (e.1 == e.1) (eq-eqb e.0 e.0 refl) (eq-eqb e.1 e.1 refl))) in
        (to.0 ++ e.1 ∷ on.0, path_join R p to.0 e.0 (e.1 ∷ on.0) q to.1 (here, on.1))
  ]
    where
      later : (a b : ℕ) → among es a b ≡ true → R a b
      later a b h = each a b (or_right (eq_by_cmp pair_cmp (a, b) e) (among es a b) h)

  -- a path of R leads on, where each edge of R is listed
  path_to : (es : List (ℕ × ℕ)) → ((a b : ℕ) → R a b → among es a b ≡ true) → (p : ℕ) (members : List ℕ) (q : ℕ) → IsPath R p members q → leads es p q ≡ true
  path_to es each p [] q h = subst (λ z. leads es p z ≡ true) h (leads_itself es p)
  path_to es each p (x ∷ xs) q h = leads_join es p x q (leads_edge es p x (each p x h.0)) (path_to es each x xs q h.1)

-- ---- the paths at a site

module _ (t : Topology) (s : ℕ) (waits : Relation) where
  -- the waits between processes of the site
  local_edges : List (ℕ × ℕ)
  local_edges = set.items (set.retain waits (λ (p : ℕ × ℕ). is_at t p.0 s && is_at t p.1 s))

  local_is : (a b : ℕ) → among local_edges a b ≡ (has waits a b && (is_at t a s && is_at t b s))
  unfolding local_edges
  local_is a b =
      sym (set.contains-items (set.retain waits (λ (p : ℕ × ℕ). is_at t p.0 s && is_at t p.1 s)) (a, b))
      ∙ set.contains-retain waits (λ (p : ℕ × ℕ). is_at t p.0 s && is_at t p.1 s) (a, b)
      (λ x tied. ap (λ z. is_at t z s && is_at t x.1 s) (sym (first_of_tied a b x tied)) ∙ ap (λ z. is_at t a s && is_at t z s) (sym (second_of_tied a b x tied)))

  edge_from : (a b : ℕ) → among local_edges a b ≡ true → WaitsLocally t s waits a b
  edge_from a b h =
      let parts = and_parts (has waits a b) (is_at t a s && is_at t b s) (sym (local_is a b) ∙ h) in
      let both = and_parts (is_at t a s) (is_at t b s) parts.1 in
      (at_from-is_at t a s both.0, at_from-is_at t b s both.1, parts.0)

  edge_to : (a b : ℕ) → WaitsLocally t s waits a b → among local_edges a b ≡ true
  edge_to a b h = local_is a b ∙ and_from (has waits a b) (is_at t a s && is_at t b s) h.2 (and_from (is_at t a s) (is_at t b s) (is_at-yes t a s h.0) (is_at-yes t b s h.1))

  -- whether p reaches q locally
  pub reaches : ℕ → ℕ → Bool
  reaches p q = is_at t p s && leads local_edges p q

  pub reaches_means : (p q : ℕ) → reaches p q ≡ true → ReachesLocally t s waits p q
  unfolding reaches
  reaches_means p q h =
      let parts = and_parts (is_at t p s) (leads local_edges p q) h in
      (at_from-is_at t p s parts.0, path_from (WaitsLocally t s waits) local_edges edge_from p q parts.1)

  pub reaches_from : (p q : ℕ) → ReachesLocally t s waits p q → reaches p q ≡ true
  unfolding reaches
  reaches_from p q h = and_from (is_at t p s) (leads local_edges p q) (is_at-yes t p s h.0) (path_to (WaitsLocally t s waits) local_edges edge_to p h.1.0 q h.1.1)

  -- p reaches q locally, or does not
  pub reach_decided : (p q : ℕ) → ReachesLocally t s waits p q ⊎ (ReachesLocally t s waits p q → ⊥)
  reach_decided p q = elim (cases_Bool (reaches p q)) [
    | inl yes' ↦ inl (reaches_means p q yes')
    | inr no' ↦ inr (λ h. true≢false (sym (reaches_from p q h) ∙ no'))
  ]

  -- among these edges one leads from p back to p, or none does
  back_among : (p : ℕ) (es : List (ℕ × ℕ)) → ((next : ℕ) × (among es p next ≡ true) × (reaches next p ≡ true)) ⊎ ((next : ℕ) → among es p next ≡ true → reaches next p ≡ true → ⊥)
  back_among p [] = inr (λ next h r. true≢false (sym h))
  back_among p (e ∷ es) = elim (back_among p es) [
    | inl one ↦ inl (one.0, or_right (eq_by_cmp pair_cmp (p, one.0) e) (among es p one.0) one.1, one.2)
    | inr none ↦ elim (cases_Bool (eq_by_cmp pair_cmp (p, e.1) e && reaches e.1 p)) [
      | inl here ↦
          let parts = and_parts (eq_by_cmp pair_cmp (p, e.1) e) (reaches e.1 p) here in
          inl (e.1, or_left (eq_by_cmp pair_cmp (p, e.1) e) (among es p e.1) parts.0, parts.1)
      | inr not_here ↦ inr (λ next h r. elim (or_cases (eq_by_cmp pair_cmp (p, next) e) (among es p next) h) [
        | inl is ↦
            let second : next ≡ e.1 = eqb-true next e.1 (and_parts (p == e.0) (next == e.1) (sym (same_pair (p, next) e) ∙ is)).1 in
            true≢false (sym (and_from (eq_by_cmp pair_cmp (p, e.1) e) (reaches e.1 p) (subst (λ z. eq_by_cmp pair_cmp (p, z) e ≡ true) second is) (subst (λ z. reaches z p ≡ true) second r)) ∙ not_here)
        | inr later ↦ none next later r
      ])
    ]
  ]

  -- p is locally dependent upon itself, or is not
  pub dependence_decided : (p : ℕ) → DependsOnItself t s waits p ⊎ (DependsOnItself t s waits p → ⊥)
  dependence_decided p = elim (back_among p local_edges) [
    | inl one ↦ inl (one.0, edge_from p one.0 one.1, reaches_means one.0 p one.2)
    | inr none ↦ inr (λ h. none h.0 (edge_to p h.0 h.1) (reaches_from h.0 p h.2))
  ]

-- The waits that leave a site, collected process by process.
use Rattle.std.proofs.Common.{inl, inr, zero, suc, ◌≡◌, ◌↔◌, ℕ, ◌+◌, ◌<◌, ◌≤◌, Bool, true, false, not, ◌&&◌, ◌||◌, ◌==◌, cond, List, [], ◌∷◌, ◌++◌, length, get_or, map, refl, sym, ap, ◌∙◌, subst, arith, true≢false, Contains, Less, nat_cmp}
use Rattle.std.specs.List.{AllByRecursion, filter, list_any}
use Rattle.std.specs.List.Sorted.{IsStrictlySortedBy, IsStrictlyIncreasing}
use Rattle.std.specs.Ordering.{ordering_then}
use Rattle.std.specs.Cmp.{nat_cmp_is, nat_cmp_total, tied_itself}
use Rattle.std.proofs.lemmas.Bool.{and_from, and_parts, cases_Bool, cases_eq, cases_lt, eqb-true, eq-eqb, ne_eqb, not-true}
use Rattle.std.proofs.lemmas.List.Elements.{Contains-append_left, Contains-append_right, Contains-append_cases}
use Rattle.std.proofs.lemmas.List.Kept.{AllPairs-from_increasing}
use Rattle.cmh_model3.specs.Lists.{IsAscending, is_before, pair_cmp}
use Rattle.cmh_model3.specs.State.{counts}
use Rattle.cmh_model3.proofs.Counts.{and_no}
use Rattle.cmh_waits3.specs.declared.wait.Wait.{Wait}
use Rattle.cmh_waits3.specs.Held.{Held, is_member, row_in, state_of}
use Rattle.cmh_waits3.specs.Inner.Away.{IsAway}
use Rattle.cmh_waits3.specs.Inner.Steps.{AreEdgesAt, AreMarkedEdges, has_place}
use Rattle.cmh_waits3.specs.Rows.{targets_of}
use Rattle.cmh_waits3.proofs.Away.{away_counts}
use Rattle.cmh_waits3.proofs.Counted.{is_counted}

-- ---- pairs in order

lesser_first : (x y : ℕ × ℕ) → x.0 < y.0 → pair_cmp x y ≡ Less
lesser_first x y h = ap (λ r. ordering_then r (nat_cmp x.1 y.1)) (sym (nat_cmp_is x.0 y.0 Less h))

lesser_second : (p a b : ℕ) → a < b → pair_cmp (p, a) (p, b) ≡ Less
lesser_second p a b h = ap (λ r. ordering_then r (nat_cmp a b)) (tied_itself nat_cmp_total p) ∙ sym (nat_cmp_is a b Less h)

all_join : (P : ℕ × ℕ → Type 0) (xs ys : List (ℕ × ℕ)) → AllByRecursion P xs → AllByRecursion P ys → AllByRecursion P (xs ++ ys)
all_join P [] ys a b = b
all_join P (x ∷ xs) ys a b = (a.0, all_join P xs ys a.1 b)

-- two lists in order, the first below the second
sorted_join : (xs ys : List (ℕ × ℕ)) → IsStrictlySortedBy pair_cmp xs → IsStrictlySortedBy pair_cmp ys → ((x : ℕ × ℕ) → Contains xs x → AllByRecursion (λ y. pair_cmp x y ≡ Less) ys) → IsStrictlySortedBy pair_cmp (xs ++ ys)
unfolding IsStrictlySortedBy
sorted_join [] ys a b below = b
sorted_join (x ∷ xs) ys a b below =
    (all_join _ xs ys a.0 (below x (0, omega arith, refl)), sorted_join xs ys a.1 b (λ z c. below z (suc c.0, (let h : c.0 < length xs = c.1 in omega arith), c.2)))

all_contained : (P : ℕ × ℕ → Type 0) (ys : List (ℕ × ℕ)) → ((y : ℕ × ℕ) → Contains ys y → P y) → AllByRecursion P ys
all_contained P [] each = tt
all_contained P (y ∷ ys) each = (each y (0, omega arith, refl), all_contained P ys (λ z c. each z (suc c.0, (let h : c.0 < length ys = c.1 in omega arith), c.2)))

no_pair : (e : ℕ × ℕ) → Contains [] e → ⊥
no_pair e (k, h, is) = absurd (omega (arith, h))

-- ---- the edges of one process

or_yes : (b : Bool) → (b || true) ≡ true
or_yes true = refl
or_yes false = refl

module _ (v : Held) (n i p : ℕ) where
  -- a wait that counts
  abbrev pub leaves : Wait → Bool
  leaves w = not (is_before n i w.since p)

  abbrev pub edges_from : List Wait → List (ℕ × ℕ)
  edges_from ws = map (λ (w : Wait). (p, w.target)) (filter leaves ws)

  edges_above : (t : ℕ) (ws : List Wait) → AllByRecursion (λ k. t < k) (targets_of ws) → AllByRecursion (λ y. pair_cmp (p, t) y ≡ Less) (edges_from ws)
  edges_above t [] h = tt
  edges_above t (w ∷ ws) h = go (leaves w) (edges_above t ws h.1)
    where
      go : (b : Bool) → AllByRecursion (λ y. pair_cmp (p, t) y ≡ Less) (edges_from ws) → AllByRecursion (λ y. pair_cmp (p, t) y ≡ Less) (map (λ (w : Wait). (p, w.target)) (cond b (w ∷ filter leaves ws) (filter leaves ws)))
      go true more = (lesser_second p t w.target h.0, more)
      go false more = more

  edges_ascend : (ws : List Wait) → IsAscending (targets_of ws) → IsStrictlySortedBy pair_cmp (edges_from ws)
  unfolding IsStrictlySortedBy
  edges_ascend [] up = tt
  edges_ascend (w ∷ ws) up = go (leaves w) (edges_ascend ws up.1)
    where
      go : (b : Bool) → IsStrictlySortedBy pair_cmp (edges_from ws) → IsStrictlySortedBy pair_cmp (map (λ (w : Wait). (p, w.target)) (cond b (w ∷ filter leaves ws) (filter leaves ws)))
      go true more = (edges_above w.target ws up.0, more)
      go false more = more

  -- what an edge from the list says
  abbrev Says : List Wait → ℕ × ℕ → Type 0
  Says ws e = (e.0 ≡ p) × (list_any (is_counted n i p e.1) ws ≡ true)

  there : (ws : List Wait) (e : ℕ × ℕ) → Contains (edges_from ws) e → Says ws e
  there [] e c = absurd (no_pair e c)
  there (w ∷ ws) e c = go (leaves w) refl (λ d. let h = there ws e d in (h.0, ap (λ b. is_counted n i p e.1 w || b) h.1 ∙ or_yes (is_counted n i p e.1 w))) c
    where
      go : (b : Bool) → leaves w ≡ b → (Contains (edges_from ws) e → Says (w ∷ ws) e) → Contains (map (λ (w : Wait). (p, w.target)) (cond b (w ∷ filter leaves ws) (filter leaves ws))) e → Says (w ∷ ws) e
      go false h later c = later c
      go true h later (zero, l, is) =
          let first : p ≡ e.0 = ap (λ (x : ℕ × ℕ). x.0) is in
          let second : w.target ≡ e.1 = ap (λ (x : ℕ × ℕ). x.1) is in
          (sym first, ap (λ b. b || list_any (is_counted n i p e.1) ws) (and_from (w.target == e.1) (not (is_before n i w.since p)) (eq-eqb w.target e.1 second) h))
      go true h later (suc k, l, is) = later (k, omega (arith, l), is)

  here : (ws : List Wait) (k : ℕ) → list_any (is_counted n i p k) ws ≡ true → Contains {X = ℕ × ℕ} (edges_from ws) (p, k)
  here [] k h = absurd (true≢false (sym h))
  here (w ∷ ws) k h = elim (cases_Bool (is_counted n i p k w)) [
    | inl e ↦ let parts = and_parts (w.target == k) (not (is_before n i w.since p)) e in first parts.1 (eqb-true w.target k parts.0)
    | inr e ↦ later (leaves w) (here ws k (sym (ap (λ b. b || list_any (is_counted n i p k) ws) e) ∙ h))
  ]
    where
      first : leaves w ≡ true → w.target ≡ k → Contains {X = ℕ × ℕ} (edges_from (w ∷ ws)) (p, k)
      first out same = subst (λ b. Contains {X = ℕ × ℕ} (map (λ (w : Wait). (p, w.target)) (cond b (w ∷ filter leaves ws) (filter leaves ws))) (p, k)) (sym out) (0, omega arith, ap (λ y. (p, y)) same)

      later : (b : Bool) → Contains {X = ℕ × ℕ} (edges_from ws) (p, k) → Contains {X = ℕ × ℕ} (map (λ (w : Wait). (p, w.target)) (cond b (w ∷ filter leaves ws) (filter leaves ws))) (p, k)
      later true c = let l : c.0 < length (edges_from ws) = c.1 in (suc c.0, omega (arith, l), c.2)
      later false c = c

  -- those of the waits for processes of other sites
  pub edges_at : (ws : List Wait) → IsAway v.members (row_in v.members v.rows p) ws → IsAscending (targets_of ws) → AreEdgesAt v n i p (edges_from ws)
  edges_at ws is up = record {
    ascending = edges_ascend ws up;
    all = λ e. (
      λ c.
          let h = there ws e c in
          let parts = and_parts (counts (state_of v) n i p e.1) (not (is_member v e.1)) (sym (away_counts v n i p ws is up e.1) ∙ h.1) in
          (h.0, parts.0, not-true (is_member v e.1) parts.1),
      λ h. subst (λ q. Contains {X = ℕ × ℕ} (edges_from ws) (q, e.1)) (sym h.0) (here ws e.1 (away_counts v n i p ws is up e.1 ∙ and_from (counts (state_of v) n i p e.1) (not (is_member v e.1)) h.1 (ap not h.2))),
    );
  }

-- ---- those of each process in turn

-- the edges of the marked members before a place
pub record AreEdgesBelow (v : Held) (n i : ℕ) (marked : List ℕ) (at : ℕ) (edges : List (ℕ × ℕ)) : Type 0 where
  pub ascending : IsStrictlySortedBy pair_cmp edges
  pub all : (edge : ℕ × ℕ) → Contains edges edge
      ↔ ((k : ℕ) × (k < at) × (has_place marked k ≡ true) × (edge.0 ≡ get_or v.members k 0)
      × (counts (state_of v) n i edge.0 edge.1 ≡ true) × (is_member v edge.1 ≡ false))

pub edges_begin : (v : Held) (n i : ℕ) (marked : List ℕ) → AreEdgesBelow v n i marked 0 []
unfolding IsStrictlySortedBy
edges_begin v n i marked = record { ascending = tt; all = λ e. (λ c. absurd (no_pair e c), λ h. let l = h.1 in absurd (omega (arith, l))) }

-- no member from one place to another is marked
edges_up_to : (v : Held) (n i : ℕ) (marked : List ℕ) (from at : ℕ) (edges : List (ℕ × ℕ)) → AreEdgesBelow v n i marked from edges → from ≤ at → ((k : ℕ) → from ≤ k → k < at → has_place marked k ≡ false) → AreEdgesBelow v n i marked at edges
edges_up_to v n i marked from at edges are up none = record {
  ascending = are.ascending;
  all = λ e. (
    λ c. let h = (are.all e).0 c in let l = h.1 in (h.0, omega (arith, l, up), h.2, h.3, h.4, h.5),
    λ h. (are.all e).1 (h.0, before h.0 h.1 h.2, h.2, h.3, h.4, h.5),
  );
}
  where
    before : (k : ℕ) → k < at → has_place marked k ≡ true → k < from
    before k below set = elim (cases_lt k from) [
      | inl less ↦ less
      | inr more ↦ absurd (true≢false (sym set ∙ none k more below))
    ]

-- the next member is marked, and these are its edges
edges_more : (v : Held) (n i : ℕ) (marked : List ℕ) (at : ℕ) (edges more : List (ℕ × ℕ)) → AreEdgesBelow v n i marked at edges → IsStrictlyIncreasing v.members → at < length v.members → has_place marked at ≡ true → AreEdgesAt v n i (get_or v.members at 0) more → AreEdgesBelow v n i marked (at + 1) (edges ++ more)
edges_more v n i marked at edges more are up inside set next = record {
  ascending = sorted_join edges more are.ascending next.ascending (λ x c. all_contained (λ y. pair_cmp x y ≡ Less) more (λ y d.
      let h = (are.all x).0 c in
      let low = AllPairs-from_increasing v.members up h.0 at 0 h.1 inside in
      let left = h.3 in
      let right = ((next.all y).0 d).0 in
      lesser_first x y (omega (arith, low, left, right))));
  all = λ e. (
    λ c. elim (Contains-append_cases edges more e c) [
      | inl d ↦ let h = (are.all e).0 d in let l = h.1 in (h.0, omega (arith, l), h.2, h.3, h.4, h.5)
      | inr d ↦
          let h = (next.all e).0 d in
          (at, omega arith, set, h.0, ap (λ q. counts (state_of v) n i q e.1) h.0 ∙ h.1, h.2)
    ],
    λ h. elim (cases_eq h.0 at) [
      | inl is ↦
          let first : e.0 ≡ get_or v.members at 0 = h.3 ∙ ap (λ k. get_or v.members k 0) is in
          Contains-append_right edges more e ((next.all e).1 (first, ap (λ q. counts (state_of v) n i q e.1) (sym first) ∙ h.4, h.5))
      | inr ne ↦ Contains-append_left edges more e ((are.all e).1 (h.0, let l = h.1 in omega (arith, l, ne), h.2, h.3, h.4, h.5))
    ],
  );
}

-- Some of the marked places are left, those from some place on. The edges of the members before it are there.
pub record AreEdgesWithout (v : Held) (n i : ℕ) (marked left : List ℕ) (edges : List (ℕ × ℕ)) : Type 0 where
  pub done : ℕ
  pub below : AreEdgesBelow v n i marked done edges
  pub none : (k : ℕ) → k < done → has_place left k ≡ false
  pub later : (k : ℕ) → done ≤ k → has_place left k ≡ has_place marked k

pub without_begin : (v : Held) (n i : ℕ) (marked left : List ℕ) → ((k : ℕ) → has_place left k ≡ has_place marked k) → AreEdgesWithout v n i marked left []
without_begin v n i marked left same = record { done = 0; below = edges_begin v n i marked; none = λ k l. absurd (omega (arith, l)); later = λ k l. same k }

module _ (v : Held) (n i : ℕ) (marked left : List ℕ) (edges : List (ℕ × ℕ)) (are : AreEdgesWithout v n i marked left edges) where
  -- the least that is left is looked at
  pub without_more : IsStrictlyIncreasing v.members → (place : ℕ) → place < length v.members → has_place left place ≡ true → ((k : ℕ) → k < place → has_place left k ≡ false)
      → (less : List ℕ) → ((k : ℕ) → has_place less k ≡ (not (k == place) && has_place left k)) → (more : List (ℕ × ℕ)) → AreEdgesAt v n i (get_or v.members place 0) more → AreEdgesWithout v n i marked less (edges ++ more)
  without_more up place inside set least less less_is more next = record {
    done = place + 1;
    below = edges_more v n i marked place edges more
        (edges_up_to v n i marked are.done place edges are.below from (λ k low high. sym (are.later k low) ∙ least k high)) up inside (sym (are.later place from) ∙ set) next;
    none = λ k low. elim (cases_eq k place) [
      | inl e ↦ less_is k ∙ ap (λ b. not b && has_place left k) (eq-eqb k place e)
      | inr ne ↦ less_is k ∙ ap (λ b. not (k == place) && b) (least k (omega (arith, low, ne))) ∙ and_no (not (k == place))
    ];
    later = λ k high. less_is k ∙ ap (λ b. not b && has_place left k) (ne_eqb k place (λ e. absurd (omega (arith, e, high)))) ∙ are.later k (let low = from in omega (arith, low, high));
  }
    where
      from : are.done ≤ place
      from = elim (cases_lt place are.done) [
        | inl below ↦ absurd (true≢false (sym set ∙ are.none place below))
        | inr above ↦ above
      ]

  pub still_marked : (k : ℕ) → has_place left k ≡ true → has_place marked k ≡ true
  still_marked k set = elim (cases_lt k are.done) [
    | inl below ↦ absurd (true≢false (sym set ∙ are.none k below))
    | inr above ↦ sym (are.later k above) ∙ set
  ]

  pub without_end : ((k : ℕ) → has_place marked k ≡ true → k < length v.members) → ((k : ℕ) → has_place left k ≡ false) → AreMarkedEdges v n i marked edges
  without_end inside empty = record {
    ascending = are.below.ascending;
    all = λ e. (
      λ c. let h = (are.below.all e).0 c in (h.0, inside h.0 h.2, h.2, h.3, h.4, h.5),
      λ h. (are.below.all e).1 (h.0, before h.0 h.2, h.2, h.3, h.4, h.5),
    );
  }
    where
      before : (k : ℕ) → has_place marked k ≡ true → k < are.done
      before k set = elim (cases_lt k are.done) [
        | inl less ↦ less
        | inr more ↦ absurd (true≢false (sym set ∙ sym (are.later k more) ∙ empty k))
      ]

-- Sets of pairs, row by row.
use Rattle.std.proofs.Common.{◌≡◌, ◌↔◌, ℕ, ◌+◌, ◌<◌, ◌≤◌, ◌==◌, ◌&&◌, ◌||◌, not, Bool, true, false, List, [], ◌++◌, length, map, get_or, if◌then◌else◌, refl, sym, ap, subst, ◌∙◌, inl, inr, arith, true≢false, Contains}
use Rattle.std.specs.List.Sorted.{IsStrictlySortedBy, IsStrictlyIncreasing}
use Rattle.std.proofs.Math.ListN.{set}
use Rattle.std.proofs.lemmas.Bool.{cases_eq, cases_lt, eq-eqb, ne_eqb}
use Rattle.std.proofs.lemmas.List.{get_or_past, get_or-set_same, get_or-set_other}
use Rattle.std.proofs.lemmas.List.Elements.{Contains-append_left, Contains-append_right, Contains-append_cases}
use Rattle.cmh_runs.specs.Number.{IsNumber}
use Rattle.cmh_frames.proofs.Apart.{eqb_comm}
use Rattle.cmh_frames.proofs.Members.{found_at, found_from, no_member}
use Rattle.cmh_model3.specs.Lists.{in_list}
use Rattle.cmh_rules.proofs.Leaving.{sorted_append, pairs_ascend, all_above, in_pairs, from_pairs}
use Rattle.cmh_report3.specs.Inner.Pairs.{has_pair}
use Rattle.cmh_report3.specs.Inner.PairRows.{AreByNumber, ArePairsOf}

-- ---- where the rows end

none_past : (rows : List (List ℕ)) (j k : ℕ) → length rows ≤ j → has_pair rows j k ≡ false
none_past rows j k past = ap (λ row. in_list row k) (get_or_past rows j [] past)

within : (rows : List (List ℕ)) (j k : ℕ) → has_pair rows j k ≡ true → j < length rows
within rows j k h = elim (cases_lt j (length rows)) [
  | inl l ↦ l
  | inr past ↦ absurd (true≢false (sym h ∙ none_past rows j k past))
]

-- ---- the pairs, row by row

pub pairs_begin : (rows : List (List ℕ)) → ArePairsOf rows 0 []
unfolding IsStrictlySortedBy
pairs_begin rows = record { all = λ e. (λ c. absurd (no_member e c), λ h. absurd (let l = h.0 in omega (arith, l))); ascending = tt }

module _ (rows : List (List ℕ)) (n : ℕ) (pairs : List (ℕ × ℕ)) (so_far : ArePairsOf rows n pairs) where
  -- a row at no process's number
  pub pairs_skip : AreByNumber rows → (IsNumber n → ⊥) → ArePairsOf rows (n + 1) pairs
  pairs_skip by_number none = record {
    all = λ e. (
      λ c. let h = (so_far.all e).0 c in (let l = h.0 in omega (arith, l), h.1),
      λ h. elim (cases_eq e.0 n) [
        | inl is ↦ absurd (none (subst IsNumber is (by_number.numbers e.0 e.1 h.1)))
        | inr other ↦ (so_far.all e).1 (let l = h.0 in omega (arith, l, other), h.1)
      ],
    );
    ascending = so_far.ascending;
  }

  -- the row of one more process
  pub pairs_more : (row : List ℕ) → get_or rows n [] ≡ row → IsStrictlyIncreasing row → ArePairsOf rows (n + 1) (pairs ++ map (λ k. (n, k)) row)
  pairs_more row is up =
      let new : List (ℕ × ℕ) = map (λ k. (n, k)) row in
      record {
        all = λ e. (
          λ c. elim (Contains-append_cases pairs new e c) [
            | inl d ↦ let h = (so_far.all e).0 d in (let l = h.0 in omega (arith, l), h.1)
            | inr d ↦
                let pair = from_pairs n row e d in (
                  let same = pair.0 in omega (arith, same),
                  ap (λ j. has_pair rows j e.1) (sym pair.0) ∙ ap (λ r. in_list r e.1) is ∙ found_from row e.1 pair.1,
                )
          ],
          λ h. elim (cases_eq e.0 n) [
            | inl same ↦
                let found = found_at row e.1 (ap (λ r. in_list r e.1) (sym is) ∙ ap (λ j. has_pair rows j e.1) (sym same) ∙ h.1) in
                Contains-append_right pairs new e (subst (λ j. Contains {X = ℕ × ℕ} new (j, e.1)) (sym same) (in_pairs n row e.1 found))
            | inr other ↦ Contains-append_left pairs new e ((so_far.all e).1 (let l = h.0 in omega (arith, l, other), h.1))
          ],
        );
        ascending = sorted_append pairs new so_far.ascending (pairs_ascend n row up) (λ x c. all_above x.0 n x.1 row ((so_far.all x).0 c).0);
      }

-- all rows
pub pairs_end : (rows : List (List ℕ)) (n : ℕ) (pairs : List (ℕ × ℕ)) → length rows ≤ n → ArePairsOf rows n pairs → (j k : ℕ) → Contains pairs (j, k) ↔ (has_pair rows j k ≡ true)
pairs_end rows n pairs end so_far j k = (
  λ c. ((so_far.all (j, k)).0 c).1,
  λ h. (so_far.all (j, k)).1 (let l = within rows j k h in omega (arith, l, end), h),
)

-- ---- one row changed

choose : {X Y : Type 0} (f : X → Y) (z : Bool) (a b : X) → f (if z then a else b) ≡ (if z then f a else f b)
choose f true a b = refl
choose f false a b = refl

module _ (rows : List (List ℕ)) (p : ℕ) (row : List ℕ) (inside : p < length rows) where
  row_set : (j : ℕ) → get_or (set rows p row) j [] ≡ (if p == j then row else get_or rows j [])
  row_set j = elim (cases_eq p j) [
    | inl e ↦ ap (λ q. get_or (set rows p row) q []) (sym e) ∙ get_or-set_same rows p row [] inside ∙ sym (ap (λ z. if z then row else get_or rows j []) (eq-eqb p j e))
    | inr n ↦ get_or-set_other rows p j row [] (λ e. n (sym e)) ∙ sym (ap (λ z. if z then row else get_or rows j []) (ne_eqb p j n))
  ]

  has_set : (j k : ℕ) → has_pair (set rows p row) j k ≡ (if p == j then in_list row k else has_pair rows j k)
  has_set j k = ap (λ r. in_list r k) (row_set j) ∙ choose (λ r. in_list r k) (p == j) row (get_or rows j [])

  -- one pair more
  pub has_more : (q : ℕ) → ((k : ℕ) → in_list row k ≡ ((k == q) || in_list (get_or rows p []) k))
      → (j k : ℕ) → has_pair (set rows p row) j k ≡ (((p == j) && (q == k)) || has_pair rows j k)
  has_more q more j k = has_set j k ∙ elim (cases_eq p j) [
    | inl e ↦
        ap (λ z. if z then in_list row k else has_pair rows j k) (eq-eqb p j e) ∙ more k
        ∙ ap (λ z. z || in_list (get_or rows p []) k) (eqb_comm k q)
        ∙ ap (λ i. (q == k) || has_pair rows i k) e
        ∙ sym (ap (λ z. (z && (q == k)) || has_pair rows j k) (eq-eqb p j e))
    | inr n ↦
        ap (λ z. if z then in_list row k else has_pair rows j k) (ne_eqb p j n)
        ∙ sym (ap (λ z. (z && (q == k)) || has_pair rows j k) (ne_eqb p j n))
  ]

  -- one pair less
  pub has_less : (q : ℕ) → ((k : ℕ) → in_list row k ≡ (not (k == q) && in_list (get_or rows p []) k))
      → (j k : ℕ) → has_pair (set rows p row) j k ≡ (not ((p == j) && (q == k)) && has_pair rows j k)
  has_less q less j k = has_set j k ∙ elim (cases_eq p j) [
    | inl e ↦
        ap (λ z. if z then in_list row k else has_pair rows j k) (eq-eqb p j e) ∙ less k
        ∙ ap (λ z. not z && in_list (get_or rows p []) k) (eqb_comm k q)
        ∙ ap (λ i. not (q == k) && has_pair rows i k) e
        ∙ sym (ap (λ z. not (z && (q == k)) && has_pair rows j k) (eq-eqb p j e))
    | inr n ↦
        ap (λ z. if z then in_list row k else has_pair rows j k) (ne_eqb p j n)
        ∙ sym (ap (λ z. not (z && (q == k)) && has_pair rows j k) (ne_eqb p j n))
  ]

-- past the rows there is no pair to take out
pub less_past : (rows : List (List ℕ)) (p q : ℕ) → length rows ≤ p → (j k : ℕ) → has_pair rows j k ≡ (not ((p == j) && (q == k)) && has_pair rows j k)
less_past rows p q past j k = elim (cases_eq p j) [
  | inl e ↦
      let none : has_pair rows j k ≡ false = none_past rows j k (subst (λ i. length rows ≤ i) e past) in
      none ∙ sym (ap (λ z. not ((p == j) && (q == k)) && z) none ∙ off (not ((p == j) && (q == k))))
  | inr n ↦ sym (ap (λ z. not (z && (q == k)) && has_pair rows j k) (ne_eqb p j n))
]
  where
    off : (z : Bool) → (z && false) ≡ false
    off true = refl
    off false = refl

-- What a search needs of the rows, as rows change.
use Rattle.std.proofs.Common.{◌≡◌, ◌≢◌, ℕ, ◌<◌, ◌≤◌, ◌⊎◌, Bool, true, false, not, ◌&&◌, ◌||◌, ◌==◌, if◌then◌else◌, List, [], ◌∷◌, length, get_or, nat_lt, refl, sym, ap, ◌∙◌, subst, inl, inr, arith, true≢false}
use Rattle.std.specs.Prelude.{ltb}
use Rattle.std.specs.List.Sorted.{IsStrictlyIncreasing}
use Rattle.std.proofs.Math.ListN.{set}
use Rattle.std.proofs.lemmas.Bool.{and_parts, cases_Bool, cases_eq, cases_lt, eq-eqb, ne_eqb, eqb-true, lt-ltb, ltb-true, or_cases}
use Rattle.std.proofs.lemmas.List.{get_or-set_same, get_or-set_other, length-set}
use Rattle.cmh_model3.specs.Lists.{in_list, is_before, without_all}
use Rattle.cmh_model3.specs.State.{counts}
use Rattle.cmh_model3.proofs.Counts.{and_no, in_minus, or_no, or_yes}
use Rattle.cmh_waits3.specs.declared.summary.Summary.{Summary}
use Rattle.cmh_waits3.specs.declared.wait.Wait.{Wait}
use Rattle.cmh_waits3.specs.Held.{Held, is_member, row_in, state_of, waits_of}
use Rattle.cmh_waits3.specs.Inner.Inserting.{AreInserted}
use Rattle.cmh_waits3.specs.Inner.Steps.{AreMarkedEdges, has_place, leads}
use Rattle.cmh_waits3.specs.Inner.Summaries.{AreSummaries, IsSummary}
use Rattle.cmh_waits3.specs.Rows.{others_than, since_in, targets_of}
use Rattle.cmh_waits3.proofs.Lists.{at_in}
use Rattle.cmh_waits3.proofs.Members.{same_place}
use Rattle.cmh_waits3.proofs.Rows.{since_others, targets_without_all}

-- ---- one process among the members

-- where a process stands, it alone does
pub at_one : (ms : List ℕ) → IsStrictlyIncreasing ms → (place x : ℕ) → place < length ms → get_or ms place 0 ≡ x
    → (k : ℕ) → (nat_lt k (length ms) && in_list (x ∷ []) (get_or ms k 0)) ≡ (k == place)
at_one ms up place x within there k = elim (cases_Bool (nat_lt k (length ms))) [
  | inr past ↦
      ap (λ b. b && in_list (x ∷ []) (get_or ms k 0)) past
      ∙ sym (ne_eqb k place (λ e. true≢false (sym (lt-ltb place (length ms) within) ∙ ap (λ j. nat_lt j (length ms)) (sym e) ∙ past)))
  | inl below ↦ ap (λ b. b && in_list (x ∷ []) (get_or ms k 0)) below ∙ or_no (x == get_or ms k 0) ∙ same (ltb-true k (length ms) below)
]
  where
    same : k < length ms → (x == get_or ms k 0) ≡ (k == place)
    same low = elim (cases_eq k place) [
      | inl e ↦ eq-eqb x (get_or ms k 0) (sym there ∙ ap (λ j. get_or ms j 0) (sym e)) ∙ sym (eq-eqb k place e)
      | inr ne ↦ ne_eqb x (get_or ms k 0) (λ e. ne (same_place ms up k place low within (sym e ∙ sym there))) ∙ sym (ne_eqb k place ne)
    ]

-- and one of another site nowhere
pub at_none : (ms : List ℕ) (x : ℕ) → in_list ms x ≡ false → (k : ℕ) → (nat_lt k (length ms) && in_list (x ∷ []) (get_or ms k 0)) ≡ false
at_none ms x away k = elim (cases_Bool (nat_lt k (length ms))) [
  | inr past ↦ ap (λ b. b && in_list (x ∷ []) (get_or ms k 0)) past
  | inl below ↦
      ap (λ b. b && in_list (x ∷ []) (get_or ms k 0)) below ∙ or_no (x == get_or ms k 0)
      ∙ ne_eqb x (get_or ms k 0) (λ e. true≢false (sym (at_in ms k x (ltb-true k (length ms) below) (sym e)) ∙ away))
]

-- ---- those so far, and one more

pub and_more : (a m x so_far more : Bool) → more ≡ (so_far || x) → ((a && not (m && so_far)) && not (m && (x || false))) ≡ (a && not (m && more))
and_more a m x so_far more is = go a m x so_far ∙ ap (λ z. a && not (m && z)) (sym is)
  where
    go : (a m x y : Bool) → ((a && not (m && y)) && not (m && (x || false))) ≡ (a && not (m && (y || x)))
    go false m x y = refl
    go true false x y = refl
    go true true x true = refl
    go true true true false = refl
    go true true false false = refl

pub or_more : (a m x so_far more : Bool) → more ≡ (so_far || x) → ((a || (m && so_far)) || (m && (x || false))) ≡ (a || (m && more))
or_more a m x so_far more is = go a m x so_far ∙ ap (λ z. a || (m && z)) (sym is)
  where
    go : (a m x y : Bool) → ((a || (m && y)) || (m && (x || false))) ≡ (a || (m && (y || x)))
    go true m x y = refl
    go false false x y = refl
    go false true x true = refl
    go false true true false = refl
    go false true false false = refl

-- ---- stamps

-- what is no later than a stamp that counts, counts
pub still_counts : (n i p m l : ℕ) → m ≤ l → is_before n i l p ≡ false → is_before n i m p ≡ false
still_counts n i p m l low late = elim (cases_Bool (is_before n i m p)) [
  | inr after ↦ after
  | inl before ↦ absurd (true≢false (sym (earlier (or_cases (ltb n m) ((n == m) && ltb i p) before)) ∙ late))
]
  where
    earlier : (ltb n m ≡ true) ⊎ (((n == m) && ltb i p) ≡ true) → is_before n i l p ≡ true
    earlier (inl less) = let a = ltb-true n m less in ap (λ z. z || ((n == l) && ltb i p)) (lt-ltb n l (omega (arith, a, low)))
    earlier (inr same) =
        let parts = and_parts (n == m) (ltb i p) same in
        let e = eqb-true n m parts.0 in
        elim (cases_lt n l) [
          | inl less ↦ ap (λ z. z || ((n == l) && ltb i p)) (lt-ltb n l less)
          | inr more ↦ let is : n ≡ l = omega (arith, e, low, more) in ap (λ z. ltb n l || (z && ltb i p)) (eq-eqb n l is) ∙ ap (λ z. ltb n l || z) parts.1 ∙ or_yes (ltb n l)
        ]

module _ (v : Held) (n i place : ℕ) (s : Summary) (sum : IsSummary v.members (row_in v.members v.rows (get_or v.members place 0)) s) where
  abbrev asker : ℕ
  asker = get_or v.members place 0

  abbrev row : List Wait
  row = row_in v.members v.rows asker

  -- where all waits of the row count, it leads to all members that are waited for
  pub led_whole : not (is_before n i s.latest asker) ≡ true → (k : ℕ) → has_place s.here.words k ≡ leads v n i place k
  led_whole count k =
      let q = get_or v.members k 0 in
      sum.here k
      ∙ ap (λ z. nat_lt k (length v.members) && z) (all (in_list (targets_of row) q) (is_before n i (since_in row q) asker) (still_counts n i asker (since_in row q) s.latest (sum.latest q) (was_not (is_before n i s.latest asker) count)))
    where
      was_not : (b : Bool) → not b ≡ true → b ≡ false
      was_not true h = absurd (true≢false (sym h))
      was_not false h = refl

      all : (a b : Bool) → b ≡ false → a ≡ (a && not b)
      all true b e = sym (ap not e)
      all false b e = refl

  -- and where none counts, to nobody
  pub led_nowhere : is_before n i s.earliest asker ≡ true → (k : ℕ) → false ≡ leads v n i place k
  led_nowhere young k = sym (ap (λ z. nat_lt k (length v.members) && z) (none (get_or v.members k 0) (cases_Bool (in_list (targets_of row) (get_or v.members k 0)))) ∙ and_no (nat_lt k (length v.members)))
    where
      none : (q : ℕ) → (in_list (targets_of row) q ≡ true) ⊎ (in_list (targets_of row) q ≡ false) → (in_list (targets_of row) q && not (is_before n i (since_in row q) asker)) ≡ false
      none q (inr free) = ap (λ z. z && not (is_before n i (since_in row q) asker)) free
      none q (inl waits) = elim (cases_Bool (is_before n i (since_in row q) asker)) [
        | inl before ↦ ap (λ z. in_list (targets_of row) q && not z) before ∙ and_no (in_list (targets_of row) q)
        | inr late ↦ absurd (true≢false (sym young ∙ still_counts n i asker s.earliest (since_in row q) (sum.earliest q waits) late))
      ]

-- ---- of one row, after some have begun, and after some have ended

pub none_summed : (ms : List ℕ) (s : Summary) → ((k : ℕ) → has_place s.here.words k ≡ false) → IsSummary ms [] s
none_summed ms s none = record {
  here = λ k. none k ∙ sym (and_no (nat_lt k (length ms)));
  earliest = λ k h. absurd (true≢false (sym h));
  latest = λ k. omega arith;
}

pub summary_begun : (ms ks : List ℕ) (since : ℕ) (before after : Summary)
    → ((k : ℕ) → has_place after.here.words k ≡ (has_place before.here.words k || (nat_lt k (length ms) && in_list ks (get_or ms k 0))))
    → (after.earliest ≤ before.earliest) × (after.earliest ≤ since) → (before.latest ≤ after.latest) × (since ≤ after.latest)
    → (old new : List Wait) → IsSummary ms old before → AreInserted ks since old new → IsSummary ms new after
summary_begun ms ks since before after here low high old new sum are = record {
  here = λ k.
      here k ∙ ap (λ z. z || (nat_lt k (length ms) && in_list ks (get_or ms k 0))) (sum.here k)
      ∙ joined (nat_lt k (length ms)) (in_list (targets_of old) (get_or ms k 0)) (in_list ks (get_or ms k 0))
      ∙ ap (λ z. nat_lt k (length ms) && z) (sym (are.targets (get_or ms k 0)));
  earliest = λ k h. subst (λ n. after.earliest ≤ n) (sym (are.stamps k)) (above k (in_list ks k) (sym (are.targets k) ∙ h));
  latest = λ k. subst (λ n. n ≤ after.latest) (sym (are.stamps k)) (below k (in_list ks k));
}
  where
    joined : (a b c : Bool) → ((a && b) || (a && c)) ≡ (a && (c || b))
    joined true true true = refl
    joined true true false = refl
    joined true false true = refl
    joined true false false = refl
    joined false b c = refl

    above : (k : ℕ) (b : Bool) → (b || in_list (targets_of old) k) ≡ true → after.earliest ≤ (if b then since else since_in old k)
    above k true h = low.1
    above k false h = let a = low.0 in let b = sum.earliest k h in omega (arith, a, b)

    below : (k : ℕ) (b : Bool) → (if b then since else since_in old k) ≤ after.latest
    below k true = high.1
    below k false = let a = high.0 in let b = sum.latest k in omega (arith, a, b)

pub summary_ended : (ms ks : List ℕ) (before after : Summary)
    → ((k : ℕ) → has_place after.here.words k ≡ (has_place before.here.words k && not (nat_lt k (length ms) && in_list ks (get_or ms k 0))))
    → after.earliest ≡ before.earliest → after.latest ≡ before.latest
    → (row left : List Wait) → IsSummary ms row before → left ≡ others_than ks row → IsSummary ms left after
summary_ended ms ks before after here first last row left sum is = subst (λ (r : List Wait). IsSummary ms r after) (sym is) (record {
  here = λ k.
      here k ∙ ap (λ z. z && not (nat_lt k (length ms) && in_list ks (get_or ms k 0))) (sum.here k)
      ∙ fewer (nat_lt k (length ms)) (in_list (targets_of row) (get_or ms k 0)) (in_list ks (get_or ms k 0))
      ∙ ap (λ z. nat_lt k (length ms) && z) (sym (there (get_or ms k 0)));
  earliest = λ k h. above k (in_list (targets_of row) k) (in_list ks k) refl (sym (there k) ∙ h) (since_others ks row k) h;
  latest = λ k. subst (λ n. n ≤ after.latest) (sym (since_others ks row k)) (below k (in_list (without_all (targets_of row) ks) k));
})
  where
    there : (k : ℕ) → in_list (targets_of (others_than ks row)) k ≡ (in_list (targets_of row) k && not (in_list ks k))
    there k = ap (λ xs. in_list xs k) (targets_without_all ks row) ∙ in_minus (targets_of row) ks k

    fewer : (a b c : Bool) → ((a && b) && not (a && c)) ≡ (a && (b && not c))
    fewer true b c = refl
    fewer false b c = refl

    above : (k : ℕ) (a b : Bool) → in_list (targets_of row) k ≡ a → (a && not b) ≡ true → since_in (others_than ks row) k ≡ (if in_list (without_all (targets_of row) ks) k then since_in row k else 0)
        → in_list (targets_of (others_than ks row)) k ≡ true → after.earliest ≤ since_in (others_than ks row) k
    above k false b e h stamp still = absurd (true≢false (sym h))
    above k true b e h stamp still =
        let low = sum.earliest k e in
        let same : since_in (others_than ks row) k ≡ since_in row k = stamp ∙ ap (λ z. if z then since_in row k else 0) (sym (ap (λ xs. in_list xs k) (targets_without_all ks row)) ∙ still) in
        omega (arith, low, same, first)

    below : (k : ℕ) (b : Bool) → (if b then since_in row k else 0) ≤ after.latest
    below k true = let a = sum.latest k in omega (arith, a, last)
    below k false = omega arith

-- who waits for none of another site does not after some waits have ended
pub ended_stay : (ms ks : List ℕ) (row left : List Wait) (leaving after : List ℕ) (place : ℕ) (empty : Bool) → left ≡ others_than ks row → empty ≡ (length left == 0)
    → ((k : ℕ) → has_place after k ≡ (not (empty && (k == place)) && has_place leaving k))
    → (has_place leaving place ≡ false → (k : ℕ) → in_list (targets_of row) k ≡ true → in_list ms k ≡ true)
    → has_place after place ≡ false → (k : ℕ) → in_list (targets_of left) k ≡ true → in_list ms k ≡ true
ended_stay ms ks row left leaving after place true is empty after_is stay gone k h = absurd (true≢false (sym h ∙ ap (λ (r : List Wait). in_list (targets_of r) k) (none left (eqb-true (length left) 0 (sym empty)))))
  where
    none : (r : List Wait) → length r ≡ 0 → r ≡ []
    none [] e = refl
    none (w ∷ ws) e = absurd (omega (arith, e))
ended_stay ms ks row left leaving after place false is empty after_is stay gone k h =
    stay (sym (after_is place) ∙ gone) k (and_parts (in_list (targets_of row) k) (not (in_list ks k)) (
    sym (ap (λ (r : List Wait). in_list (targets_of r) k) is ∙ ap (λ xs. in_list xs k) (targets_without_all ks row) ∙ in_minus (targets_of row) ks k) ∙ h)).0

-- nor does one who begins to wait for some of this site alone
pub begun_stay : (ms ks : List ℕ) (since : ℕ) (old new : List Wait) (leaving after : List ℕ) (place : ℕ) (leaves : Bool) → AreInserted ks since old new
    → ((k : ℕ) → has_place after k ≡ ((leaves && (k == place)) || has_place leaving k))
    → (leaves ≡ false → (k : ℕ) → in_list ks k ≡ true → in_list ms k ≡ true)
    → (has_place leaving place ≡ false → (k : ℕ) → in_list (targets_of old) k ≡ true → in_list ms k ≡ true)
    → has_place after place ≡ false → (k : ℕ) → in_list (targets_of new) k ≡ true → in_list ms k ≡ true
begun_stay ms ks since old new leaving after place true are after_is here stay gone k h =
    absurd (true≢false (sym (after_is place ∙ ap (λ b. b || has_place leaving place) (eq-eqb place place refl)) ∙ gone))
begun_stay ms ks since old new leaving after place false are after_is here stay gone k h = elim (or_cases (in_list ks k) (in_list (targets_of old) k) (sym (are.targets k) ∙ h)) [
  | inl new ↦ here refl k new
  | inr before ↦ stay (sym (after_is place) ∙ gone) k before
]

-- ---- of all rows

pub all_summed : (ms : List ℕ) (rows : List (List Wait)) (ss : List Summary) (leaving : List ℕ) → length ss ≡ length ms
    → ((place : ℕ) → get_or rows place [] ≡ []) → ((place : ℕ) (s : Summary) → place < length ms → get_or ss place s ≡ s → IsSummary ms [] s) → AreSummaries ms rows ss leaving
all_summed ms rows ss leaving long empty each = record {
  long = long;
  each = λ place s inside is. subst (λ (r : List Wait). IsSummary ms r s) (sym (empty place)) (each place s inside is);
  stay = λ place k inside none h. absurd (true≢false (sym h ∙ ap (λ (r : List Wait). in_list (targets_of r) k) (empty place)));
}

-- the row at a place has changed, and its summary with it
pub summaries_set : (ms : List ℕ) (rows : List (List Wait)) (ss : List Summary) (leaving after : List ℕ) → AreSummaries ms rows ss leaving → length rows ≡ length ms
    → (place : ℕ) → place < length ms → (row : List Wait) (s : Summary) → IsSummary ms row s
    → ((j : ℕ) → j ≢ place → has_place after j ≡ has_place leaving j)
    → (has_place after place ≡ false → (k : ℕ) → in_list (targets_of row) k ≡ true → in_list ms k ≡ true)
    → AreSummaries ms (set rows place row) (set ss place s) after
summaries_set ms rows ss leaving after are long place inside row s sum others stay = record {
  long = length-set ss place s ∙ are.long;
  each = λ j t low is. elim (cases_eq j place) [
    | inl e ↦
        let first : s ≡ t = sym (get_or-set_same ss place s t (omega (arith, inside, summed))) ∙ ap (λ q. get_or (set ss place s) q t) (sym e) ∙ is in
        let here : row ≡ get_or (set rows place row) j [] = sym (get_or-set_same rows place row [] (omega (arith, inside, long))) ∙ ap (λ q. get_or (set rows place row) q []) (sym e) in
        subst (λ (r : List Wait). IsSummary ms r t) here (subst (λ (t : Summary). IsSummary ms row t) first sum)
    | inr ne ↦
        subst (λ (r : List Wait). IsSummary ms r t) (sym (get_or-set_other rows place j row [] ne))
        (are.each j t low (sym (get_or-set_other ss place j s t ne) ∙ is))
  ];
  stay = λ j k low none h. elim (cases_eq j place) [
    | inl e ↦
        let here : get_or (set rows place row) j [] ≡ row = ap (λ q. get_or (set rows place row) q []) e ∙ get_or-set_same rows place row [] (omega (arith, inside, long)) in
        stay (ap (has_place after) (sym e) ∙ none) k (sym (ap (λ (r : List Wait). in_list (targets_of r) k) here) ∙ h)
    | inr ne ↦ are.stay j k low (sym (others j ne) ∙ none) (sym (ap (λ (r : List Wait). in_list (targets_of r) k) (get_or-set_other rows place j row [] ne)) ∙ h)
  ];
}
  where
    summed : length ss ≡ length ms
    summed = are.long

-- ---- the waits that leave the site are those of the processes that are marked for it

pub marked_leaving : (v : Held) (n i : ℕ) (reached leaving both : List ℕ) (edges : List (ℕ × ℕ)) → ((k : ℕ) → has_place both k ≡ (has_place reached k && has_place leaving k))
    → ((place k : ℕ) → place < length v.members → has_place leaving place ≡ false → in_list (waits_of v (get_or v.members place 0)) k ≡ true → is_member v k ≡ true)
    → AreMarkedEdges v n i both edges → AreMarkedEdges v n i reached edges
marked_leaving v n i reached leaving both edges are stay marked = record {
  ascending = marked.ascending;
  all = λ e. (
    λ c. let h = (marked.all e).0 c in (h.0, h.1, (and_parts (has_place reached h.0) (has_place leaving h.0) (sym (are h.0) ∙ h.2)).0, h.3, h.4, h.5),
    λ h. (marked.all e).1 (h.0, h.1, are h.0 ∙ ap (λ b. b && has_place leaving h.0) h.2 ∙ goes e.0 e.1 h.0 h.1 h.3 h.4 h.5, h.3, h.4, h.5),
  );
}
  where
    goes : (p q k : ℕ) → k < length v.members → p ≡ get_or v.members k 0 → counts (state_of v) n i p q ≡ true → is_member v q ≡ false → has_place leaving k ≡ true
    goes p q k inside is count away = elim (cases_Bool (has_place leaving k)) [
      | inl there ↦ there
      | inr stays ↦
          let waits = (and_parts (in_list (waits_of v p) q) (not (is_before n i ((state_of v).since p q) p)) count).0 in
          absurd (true≢false (sym (stay k q inside stays (ap (λ x. in_list (waits_of v x) q) (sym is) ∙ waits)) ∙ away))
    ]

-- That no wait of a site is younger than some ask, as waits begin and end.
use Rattle.std.proofs.Common.{◌≡◌, ◌≢◌, ℕ, ◌<◌, ◌≤◌, ◌⊎◌, Bool, true, false, not, ◌&&◌, ◌||◌, ◌==◌, if◌then◌else◌, List, [], length, get_or, nat_lt, refl, sym, ap, ◌∙◌, subst, inl, inr, arith, true≢false}
use Rattle.std.specs.Prelude.{ltb}
use Rattle.std.specs.List.Sorted.{IsStrictlyIncreasing}
use Rattle.std.proofs.Math.ListN.{set}
use Rattle.std.proofs.lemmas.Bool.{and_parts, cases_Bool, cases_eq, cases_lt, eq-eqb, lt-ltb, ltb-true, eqb-true, or_cases}
use Rattle.std.proofs.lemmas.List.{get_or-set_same, get_or-set_other}
use Rattle.cmh_model3.specs.Lists.{in_list, is_before, without_all}
use Rattle.cmh_model3.specs.State.{counts}
use Rattle.cmh_model3.proofs.Counts.{in_minus, or_yes}
use Rattle.cmh_waits3.specs.declared.summary.Summary.{Summary}
use Rattle.cmh_waits3.specs.declared.wait.Wait.{Wait}
use Rattle.cmh_waits3.specs.Held.{Held, row_in, state_of, waits_of}
use Rattle.cmh_waits3.specs.Inner.Inserting.{AreInserted}
use Rattle.cmh_waits3.specs.Inner.Steps.{DoAllCount, has_place, leads}
use Rattle.cmh_waits3.specs.Inner.Summaries.{AreNoYounger, IsSummary}
use Rattle.cmh_waits3.specs.Rows.{others_than, since_in, targets_of}
use Rattle.cmh_waits3.proofs.Members.{old_is}
use Rattle.cmh_waits3.proofs.Rows.{since_others, targets_without_all}

-- ---- asks in order

before_parts : (n i m k : ℕ) → is_before n i m k ≡ false → (m ≤ n) × (n ≡ m → k ≤ i)
before_parts n i m k h = (
  elim (cases_lt n m) [
    | inl less ↦ absurd (true≢false (sym (ap (λ z. z || ((n == m) && ltb i k)) (lt-ltb n m less)) ∙ h))
    | inr more ↦ more
  ],
  λ e. elim (cases_lt i k) [
    | inl less ↦ absurd (true≢false (sym (ap (λ z. ltb n m || (z && ltb i k)) (eq-eqb n m e) ∙ ap (λ z. ltb n m || z) (lt-ltb i k less) ∙ or_yes (ltb n m)) ∙ h))
    | inr more ↦ more
  ],
)

pub before_from : (n i m k : ℕ) → m ≤ n → (n ≡ m → k ≤ i) → is_before n i m k ≡ false
before_from n i m k low tied = elim (cases_Bool (is_before n i m k)) [
  | inr none ↦ none
  | inl before ↦ absurd (elim (or_cases (ltb n m) ((n == m) && ltb i k) before) [
    | inl less ↦ let a = ltb-true n m less in omega (arith, a, low)
    | inr same ↦
        let parts = and_parts (n == m) (ltb i k) same in
        let a = ltb-true i k parts.1 in
        let b = tied (eqb-true n m parts.0) in
        omega (arith, a, b)
  ])
]

pub not_before_itself : (n i : ℕ) → is_before n i n i ≡ false
not_before_itself n i = before_from n i n i (omega arith) (λ e. omega arith)

pub not_before_through : (n i l a m k : ℕ) → is_before n i l a ≡ false → is_before l a m k ≡ false → is_before n i m k ≡ false
not_before_through n i l a m k first second =
    let p = before_parts n i l a first in
    let q = before_parts l a m k second in
    let low = p.0 in
    let lower = q.0 in
    before_from n i m k (omega (arith, low, lower))
    (λ e. let x = p.1 (omega (arith, e, low, lower)) in let y = q.1 (omega (arith, e, low, lower)) in omega (arith, x, y))

-- of two asks one is not before the other
pub not_before_back : (n i m k : ℕ) → is_before n i m k ≡ true → is_before m k n i ≡ false
not_before_back n i m k before = elim (or_cases (ltb n m) ((n == m) && ltb i k) before) [
  | inl less ↦ let a = ltb-true n m less in before_from m k n i (omega (arith, a)) (λ e. absurd (omega (arith, a, e)))
  | inr same ↦
      let parts = and_parts (n == m) (ltb i k) same in
      let e = eqb-true n m parts.0 in
      let a = ltb-true i k parts.1 in
      before_from m k n i (omega (arith, e)) (λ f. omega (arith, a))
]

-- ---- the waits of a row

-- those that are left were there
pub ended_no_younger : (ks : List ℕ) (n i p : ℕ) (row left : List Wait) → left ≡ others_than ks row
    → ((k : ℕ) → in_list (targets_of row) k ≡ true → is_before n i (since_in row k) p ≡ false)
    → (k : ℕ) → in_list (targets_of left) k ≡ true → is_before n i (since_in left k) p ≡ false
ended_no_younger ks n i p row left is old k h =
    let there : in_list (without_all (targets_of row) ks) k ≡ true =
    sym (ap (λ (r : List Wait). in_list (targets_of r) k) is ∙ ap (λ xs. in_list xs k) (targets_without_all ks row)) ∙ h in
    let stamp : since_in left k ≡ since_in row k =
    ap (λ (r : List Wait). since_in r k) is ∙ since_others ks row k ∙ ap (λ z. if z then since_in row k else 0) there in
    ap (λ s. is_before n i s p) stamp ∙ old k (and_parts (in_list (targets_of row) k) (not (in_list ks k)) (sym (in_minus (targets_of row) ks k) ∙ there)).0

-- and those that begin have the new stamp
pub begun_no_younger : (ks : List ℕ) (since n i l a p : ℕ) (row new : List Wait) → AreInserted ks since row new
    → is_before n i l a ≡ false → is_before n i since p ≡ false
    → ((k : ℕ) → in_list (targets_of row) k ≡ true → is_before l a (since_in row k) p ≡ false)
    → (k : ℕ) → in_list (targets_of new) k ≡ true → is_before n i (since_in new k) p ≡ false
begun_no_younger ks since n i l a p row new are later now old k h =
    ap (λ s. is_before n i s p) (are.stamps k) ∙ go (in_list ks k) (sym (are.targets k) ∙ h)
  where
    go : (b : Bool) → (b || in_list (targets_of row) k) ≡ true → is_before n i (if b then since else since_in row k) p ≡ false
    go true there = now
    go false there = not_before_through n i l a (since_in row k) p later (old k there)

-- ---- those of all rows

pub none_younger : (ms : List ℕ) (rows : List (List Wait)) (n i : ℕ) → ((place : ℕ) → get_or rows place [] ≡ []) → AreNoYounger ms rows n i
none_younger ms rows n i empty = record { each = λ place k inside h. absurd (true≢false (sym h ∙ ap (λ (r : List Wait). in_list (targets_of r) k) (empty place))) }

-- the row at a place has changed
pub youngest_set : (ms : List ℕ) (rows : List (List Wait)) (l a n i : ℕ) → AreNoYounger ms rows l a → length rows ≡ length ms
    → is_before n i l a ≡ false → (place : ℕ) → place < length ms → (row : List Wait)
    → ((k : ℕ) → in_list (targets_of row) k ≡ true → is_before n i (since_in row k) (get_or ms place 0) ≡ false)
    → AreNoYounger ms (set rows place row) n i
youngest_set ms rows l a n i are long later place inside row new = record { each = each }
  where
    each : (j k : ℕ) → j < length ms → in_list (targets_of (get_or (set rows place row) j [])) k ≡ true
        → is_before n i (since_in (get_or (set rows place row) j []) k) (get_or ms j 0) ≡ false
    each j k low h = elim (cases_eq j place) [
      | inl e ↦
          let here : get_or (set rows place row) j [] ≡ row = ap (λ q. get_or (set rows place row) q []) e ∙ get_or-set_same rows place row [] (omega (arith, inside, long)) in
          ap (λ (r : List Wait). is_before n i (since_in r k) (get_or ms j 0)) here ∙ ap (λ q. is_before n i (since_in row k) (get_or ms q 0)) e
          ∙ new k (sym (ap (λ (r : List Wait). in_list (targets_of r) k) here) ∙ h)
      | inr ne ↦
          let there = get_or-set_other rows place j row [] ne in
          ap (λ (r : List Wait). is_before n i (since_in r k) (get_or ms j 0)) there
          ∙ not_before_through n i l a (since_in (get_or rows j []) k) (get_or ms j 0) later (are.each j k low (sym (ap (λ (r : List Wait). in_list (targets_of r) k) there) ∙ h))
    ]

-- ---- what an ask that is no earlier makes of it

pub all_do_count : (ms : List ℕ) (rows : List (List Wait)) (n i l a : ℕ) → IsStrictlyIncreasing ms → length rows ≡ length ms
    → AreNoYounger ms rows l a → not (is_before n i l a) ≡ true → DoAllCount (record { members = ms; rows = rows }) n i
all_do_count ms rows n i l a up long are late place k inside h =
    let p = get_or ms place 0 in
    let row : row_in ms rows p ≡ get_or rows place [] = old_is ms rows up long place p inside refl in
    let waits = sym (ap (λ (r : List Wait). in_list (targets_of r) k) row) ∙ h in
    ap (λ b. b && not (is_before n i (since_in (row_in ms rows p) k) p)) h
    ∙ ap (λ (r : List Wait). not (is_before n i (since_in r k) p)) row
    ∙ ap not (not_before_through n i l a (since_in (get_or rows place []) k) p (was_not (is_before n i l a) late) (are.each place k inside waits))
  where
    was_not : (b : Bool) → not b ≡ true → b ≡ false
    was_not true e = absurd (true≢false (sym e))
    was_not false e = refl

-- a process leads to all members that it waits for
pub led_by_all : (v : Held) (n i place : ℕ) (s : Summary) → IsSummary v.members (row_in v.members v.rows (get_or v.members place 0)) s
    → DoAllCount v n i → place < length v.members → (k : ℕ) → has_place s.here.words k ≡ leads v n i place k
led_by_all v n i place s sum all inside k =
    let p = get_or v.members place 0 in
    let q = get_or v.members k 0 in
    sum.here k
    ∙ ap (λ z. nat_lt k (length v.members) && z) (go (in_list (waits_of v p) q) (counts (state_of v) n i p q) (all place q inside) (λ h. (and_parts (in_list (waits_of v p) q) (not (is_before n i ((state_of v).since p q) p)) h).0))
  where
    go : (a b : Bool) → (a ≡ true → b ≡ true) → (b ≡ true → a ≡ true) → a ≡ b
    go true b on back = sym (on refl)
    go false true on back = back refl
    go false false on back = refl

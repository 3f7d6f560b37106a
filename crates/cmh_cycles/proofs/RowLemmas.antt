-- The rows of a table that stand at the places of a row.
use Rattle.std.proofs.Common.{inl, inr, ◌≡◌, ◌↔◌, ℕ, zero, suc, ◌+◌, ◌*◌, ◌/◌, ◌%◌, ◌<◌, ◌≤◌, Bool, true, false, not, ◌&&◌, ◌||◌, ◌==◌, ◌⊎◌, ⊎_elim, List, length, get_or, refl, sym, ap, ◌∙◌, arith, true≢false}
use Rattle.std.proofs.lemmas.Bool.{eq-eqb, ne_eqb, cases_Bool, cases_eq, and_parts, and_from, or_cases, or_left, or_right}
use Rattle.std.proofs.Math.Bool.{and-false}
use Rattle.cmh_bits.specs.Bits.{has_number, is_set}
use Rattle.cmh_cycles.specs.Inner.Leading.{leads}
use Rattle.cmh_cycles.specs.Rows.{AreTwins, row_at}
use Rattle.cmh_bits.proofs.BitLemmas.{no_bit}
use Rattle.cmh_bits.proofs.WordLemmas.{has_at, within_words}

-- ---- the rows of a table at the bits of a word

-- the row has what it had, and those of the table's rows at the bits of the word that are not left
pub record IsAdding (table : List (List ℕ)) (start word : ℕ) (old new : List ℕ) (left : ℕ) : Type 0 where
  pub same : length new ≡ length old
  pub part : (p : ℕ) → is_set left p ≡ true → is_set word p ≡ true
  pub kept : (v : ℕ) → has_number old v ≡ true → has_number new v ≡ true
  pub added : (v p : ℕ) → is_set word p ≡ true → is_set left p ≡ false → has_number (row_at table (start + p)) v ≡ true → has_number new v ≡ true
  pub only : (v : ℕ) → has_number new v ≡ true → (has_number old v ≡ true) ⊎ ((p : ℕ) × (p < 64) × (is_set word p ≡ true) × (has_number (row_at table (start + p)) v ≡ true))

pub adding_start : (table : List (List ℕ)) (start word : ℕ) (old : List ℕ) → IsAdding table start word old old word
adding_start table start word old = record {
  same = refl;
  part = λ p h. h;
  kept = λ v h. h;
  added = λ v p h none. absurd (true≢false (sym h ∙ none));
  only = λ v h. inl h;
}

pub adding_more : (table : List (List ℕ)) (start word : ℕ) (old new next : List ℕ) (left less p : ℕ) (row : List ℕ) → IsAdding table start word old new left → p < 64 → is_set left p ≡ true
    → ((k : ℕ) → is_set less k ≡ (not (k == p) && is_set left k)) → row_at table (start + p) ≡ row
    → length next ≡ length new → ((k : ℕ) → has_number next k ≡ (has_number new k || has_number row k)) → IsAdding table start word old next less
adding_more table start word old new next left less p row is small at bits here long places = record {
  same = long ∙ is.same;
  part = λ q h. is.part q (and_parts (not (q == p)) (is_set left q) (sym (bits q) ∙ h)).1;
  kept = λ v h. places v ∙ or_left (has_number new v) (has_number row v) (is.kept v h);
  added = λ v q h none has. elim (cases_eq q p) [
    | inl e ↦ places v ∙ or_right (has_number new v) (has_number row v) (ap (λ r. has_number r v) (sym here ∙ ap (λ i. row_at table (start + i)) (sym e)) ∙ has)
    | inr ne ↦ places v ∙ or_left (has_number new v) (has_number row v) (is.added v q h (sym (bits q ∙ ap (λ b. not b && is_set left q) (ne_eqb q p ne)) ∙ none) has)
  ];
  only = λ v h. elim (or_cases (has_number new v) (has_number row v) (sym (places v) ∙ h)) [
    | inl e ↦ is.only v e
    | inr e ↦ inr (p, small, is.part p at, ap (λ r. has_number r v) here ∙ e)
  ];
}

pub adding_end : (table : List (List ℕ)) (start word : ℕ) (old new : List ℕ) (left : ℕ) → left ≡ 0 → IsAdding table start word old new left
    → (v : ℕ) → has_number new v ≡ true ↔ ((has_number old v ≡ true) ⊎ ((p : ℕ) × (p < 64) × (is_set word p ≡ true) × (has_number (row_at table (start + p)) v ≡ true)))
adding_end table start word old new left none is v = (
  is.only v,
  λ h. ⊎_elim (λ o. is.kept v o) (λ q. is.added v q.0 q.2 (ap (λ w. is_set w q.0) none ∙ no_bit q.0) q.3) h,
)

-- ---- the rows of a table at the places of a row that lead

-- the row has what the rows of the table have at those places in the first words that lead
pub record IsUnion (table : List (List ℕ)) (twins places union : List ℕ) (at : ℕ) : Type 0 where
  pub same : length union ≡ length places
  pub added : (k v : ℕ) → k / 64 < at → has_number places k ≡ true → leads places twins k ≡ true → has_number (row_at table k) v ≡ true → has_number union v ≡ true
  pub only : (v : ℕ) → has_number union v ≡ true → (k : ℕ) × (has_number places k ≡ true) × (has_number (row_at table k) v ≡ true)

pub union_start : (table : List (List ℕ)) (twins places union : List ℕ) → length union ≡ length places → ((k : ℕ) → has_number union k ≡ false) → IsUnion table twins places union 0
union_start table twins places union long none = record {
  same = long;
  added = λ k v l. absurd (omega arith);
  only = λ v h. absurd (true≢false (sym h ∙ none v));
}

pub union_more : (table : List (List ℕ)) (twins places old new : List ℕ) (at word leading : ℕ) → IsUnion table twins places old at → get_or places at 0 ≡ word → length new ≡ length old
    → ((p : ℕ) → p < 64 → is_set leading p ≡ (is_set word p && leads places twins (at * 64 + p)))
    → ((v : ℕ) → has_number new v ≡ true ↔ ((has_number old v ≡ true) ⊎ ((p : ℕ) × (p < 64) × (is_set leading p ≡ true) × (has_number (row_at table (at * 64 + p)) v ≡ true))))
    → IsUnion table twins places new (at + 1)
union_more table twins places old new at word leading is here long bits step = record {
  same = long ∙ is.same;
  added = λ k v l h first has. elim (cases_eq (k / 64) at) [
    | inl e ↦
        let whole : at * 64 + k % 64 ≡ k = omega (arith, e) in
        (step v).1 (inr (
          k % 64,
          omega arith,
          bits (k % 64) (omega arith) ∙ and_from (is_set word (k % 64)) (leads places twins (at * 64 + k % 64))
              (ap (λ w. is_set w (k % 64)) (sym here ∙ ap (λ q. get_or places q 0) (sym e)) ∙ h)
              (ap (λ q. leads places twins q) whole ∙ first),
          ap (λ q. has_number (row_at table q) v) whole ∙ has,
        ))
    | inr ne ↦ (step v).1 (inl (is.added k v (omega arith) h first has))
  ];
  only = λ v h. ⊎_elim
      (λ o. is.only v o)
      (λ q. (at * 64 + q.0, has_at places at q.0 q.1 ∙ ap (λ w. is_set w q.0) here ∙ (and_parts (is_set word q.0) (leads places twins (at * 64 + q.0)) (sym (bits q.0 q.1) ∙ q.2)).0, q.3))
      ((step v).0 h);
}

neither : (a b : Bool) → (a || not b) ≡ false → (a ≡ false) × (b ≡ true)
neither true b e = absurd (true≢false e)
neither false true e = (refl, refl)
neither false false e = absurd (true≢false e)

pub union_end : (table : List (List ℕ)) (twins places union : List ℕ) (at : ℕ) → length places ≤ at → AreTwins table twins → ((k : ℕ) → has_number places k ≡ true → k < length table) → IsUnion table twins places union at
    → (v : ℕ) → has_number union v ≡ true ↔ ((k : ℕ) × (has_number places k ≡ true) × (has_number (row_at table k) v ≡ true))
union_end table twins places union at all are inside is v = (is.only v, λ h. reached (h.0 + 1) h.0 (omega arith) h.1 h.2)
  where
    -- the twin of a place that does not lead is a lower place with the same row
    reached : (fuel k : ℕ) → k < fuel → has_number places k ≡ true → has_number (row_at table k) v ≡ true → has_number union v ≡ true
    reached zero k l h has = absurd (omega arith)
    reached (suc fuel) k l h has = elim (cases_Bool (leads places twins k)) [
      | inl first ↦ is.added k v (let w = within_words places k h in omega (arith, w, all)) h first has
      | inr follows ↦
          let parts = neither (get_or twins k 0 == k) (has_number places (get_or twins k 0)) follows in
          let back = are.back k (inside k h) in
          let other = ne_of parts.0 in
          reached fuel (get_or twins k 0) (omega (arith, back, other, l)) parts.1 (ap (λ r. has_number r v) (are.same k (inside k h)) ∙ has)
    ]
      where
        ne_of : (get_or twins k 0 == k) ≡ false → get_or twins k 0 ≡ k → ⊥
        ne_of apart e = true≢false (sym (eq-eqb (get_or twins k 0) k e) ∙ apart)

-- ---- the bits of a word that lead

-- of the word's bits that are not left those that lead, and all that are left
pub record IsLeading (row twins : List ℕ) (start word leading left : ℕ) : Type 0 where
  pub part : (p : ℕ) → is_set left p ≡ true → is_set word p ≡ true
  pub waiting : (p : ℕ) → is_set left p ≡ true → is_set leading p ≡ true
  pub told : (p : ℕ) → is_set left p ≡ false → is_set leading p ≡ (is_set word p && leads row twins (start + p))

pub leading_start : (row twins : List ℕ) (start word : ℕ) → IsLeading row twins start word word word
leading_start row twins start word = record {
  part = λ p h. h;
  waiting = λ p h. h;
  told = λ p none. none ∙ sym (ap (λ b. b && leads row twins (start + p)) none);
}

module _ (row twins : List ℕ) (start word leading left less p : ℕ) (is : IsLeading row twins start word leading left) (at : is_set left p ≡ true) (bits : (k : ℕ) → is_set less k ≡ (not (k == p) && is_set left k)) where
  was_left : (q : ℕ) → is_set less q ≡ true → is_set left q ≡ true
  was_left q h = (and_parts (not (q == p)) (is_set left q) (sym (bits q) ∙ h)).1

  other_than : (q : ℕ) → is_set less q ≡ true → (q ≡ p → ⊥)
  other_than q h e = true≢false (sym (and_parts (not (q == p)) (is_set left q) (sym (bits q) ∙ h)).0 ∙ ap not (eq-eqb q p e))

  before : (q : ℕ) → (q ≡ p → ⊥) → is_set less q ≡ false → is_set left q ≡ false
  before q ne none = sym (bits q ∙ ap (λ b. not b && is_set left q) (ne_eqb q p ne)) ∙ none

  -- the place leads
  pub leading_kept : leads row twins (start + p) ≡ true → IsLeading row twins start word leading less
  leading_kept first = record {
    part = λ q h. is.part q (was_left q h);
    waiting = λ q h. is.waiting q (was_left q h);
    told = λ q none. elim (cases_eq q p) [
      | inl e ↦
          ap (is_set leading) e ∙ is.waiting p at ∙ sym (and_from (is_set word q) (leads row twins (start + q)) (ap (is_set word) e ∙ is.part p at) (ap (λ i. leads row twins (start + i)) e ∙ first))
      | inr ne ↦ is.told q (before q ne none)
    ];
  }

  -- its twin is another that is in the row
  pub leading_dropped : (fewer : ℕ) → ((k : ℕ) → is_set fewer k ≡ (not (k == p) && is_set leading k)) → leads row twins (start + p) ≡ false → IsLeading row twins start word fewer less
  leading_dropped fewer drops follows = record {
    part = λ q h. is.part q (was_left q h);
    waiting = λ q h. kept q (other_than q h) ∙ is.waiting q (was_left q h);
    told = λ q none. elim (cases_eq q p) [
      | inl e ↦
          drops q ∙ ap (λ b. not b && is_set leading q) (eq-eqb q p e)
          ∙ sym (ap (λ b. is_set word q && b) (ap (λ i. leads row twins (start + i)) e ∙ follows) ∙ and-false (is_set word q))
      | inr ne ↦ kept q ne ∙ is.told q (before q ne none)
    ];
  }
    where
      kept : (q : ℕ) → (q ≡ p → ⊥) → is_set fewer q ≡ is_set leading q
      kept q ne = drops q ∙ ap (λ b. not b && is_set leading q) (ne_eqb q p ne)

pub leading_end : (row twins : List ℕ) (start word leading left : ℕ) → left ≡ 0 → IsLeading row twins start word leading left
    → (p : ℕ) → is_set leading p ≡ (is_set word p && leads row twins (start + p))
leading_end row twins start word leading left none is p = is.told p (ap (λ w. is_set w p) none ∙ no_bit p)

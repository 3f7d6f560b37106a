-- The rows and lists after an ask, and after one that is taken back.
use Rattle.std.proofs.Common.{◌≡◌, ◌≢◌, ◌+◌, ◌<◌, ℕ, suc, zero, Bool, true, false, not, ◌&&◌, ◌||◌, ◌==◌, List, [], ◌∷◌, length, get_or, nat_lt, refl, sym, ap, ◌∙◌, subst, inl, inr, true≢false, arith}
use Rattle.std.specs.List.{filter}
use Rattle.std.specs.List.Sorted.{IsStrictlyIncreasing}
use Rattle.std.proofs.Math.Bool.{and-false, and-true, or-false}
use Rattle.std.proofs.Math.ListN.{set}
use Rattle.std.proofs.lemmas.Bool.{eqb-true, eq-eqb, ne_eqb, and_parts, not-true, cases_eq, lt-ltb, ltb-true}
use Rattle.std.proofs.lemmas.List.{get_or-set_same, get_or-set_other, length-set}
use Rattle.std.proofs.lemmas.Map.Views.{any-filter_same}
use Rattle.cmh_frames.specs.Relation.{has, has_some, only_firsts, with_each}
use Rattle.cmh_frames.specs.Rules.{IsAscending, owed_after_ask}
use Rattle.cmh_frames.proofs.Pairs.{has-none, has-only, has-with_each, has-with_each_other}
use Rattle.cmh_waits.specs.Held.{owed_before_ask}
use Rattle.cmh_bits.specs.Bits.{is_set}
use Rattle.cmh_waits.specs.Rows.{AreRows, bit_of, is_at_in, is_in, relation_of}
use Rattle.cmh_waits.proofs.Asks.{has-after_ask, has-before_ask, owes_since}
use Rattle.cmh_bits.proofs.BitLemmas.{no_bit}
use Rattle.cmh_waits.proofs.RowLemmas.{has_bit_at, has_listed, has_none, in_at, relation_is, same_place}

-- one more in front of what ascends
increasing_cons : (x y : ℕ) (ys : List ℕ) → x < y → IsStrictlyIncreasing (y ∷ ys) → IsStrictlyIncreasing (x ∷ y ∷ ys)
increasing_cons x y ys less up = go
  where
    go : (k : ℕ) → k + 1 < length (x ∷ y ∷ ys) → get_or (x ∷ y ∷ ys) k 0 < get_or (x ∷ y ∷ ys) (k + 1) 0
    go zero h = less
    go (suc k) h = let e : suc k + 1 ≡ suc (k + 1) = omega arith in subst (λ m. get_or (y ∷ ys) k 0 < get_or (x ∷ y ∷ ys) m 0) (sym e) (up k (omega arith))

-- targets in ascending order
pub increasing_from : (xs : List ℕ) → IsAscending xs → IsStrictlyIncreasing xs
increasing_from [] up = λ k h. absurd (omega (arith, h))
increasing_from (x ∷ []) up = λ k h. absurd (omega (arith, h))
increasing_from (x ∷ y ∷ ys) up = increasing_cons x y ys up.0.0 (increasing_from (y ∷ ys) up.1)

module _ (ms rows : List ℕ) (lists : List (List ℕ)) (up : IsStrictlyIncreasing ms) (are : AreRows ms rows lists) (p x : ℕ) (within : p < length ms) (e : get_or ms p 0 ≡ x) where
  first_is : (i : ℕ) → i < length ms → (get_or ms i 0 == x) ≡ (i == p)
  first_is i a = ap (λ z. get_or ms i 0 == z) (sym e) ∙ same_place ms up i p a within

  not_asker : (y : ℕ) → is_in ms y ≡ false → (y == x) ≡ false
  not_asker y away = ne_eqb y x (λ h. true≢false (sym (in_at ms p x within e) ∙ ap (is_in ms) (sym h) ∙ away))

  -- ---- the waits of one member

  module _ (row : ℕ) (list : List ℕ) where
    row_same : (b : ℕ) → bit_of (set rows p row) p b ≡ is_set row b
    row_same b = ap (λ n. is_set n b) (get_or-set_same rows p row 0 (omega (arith, are.rows_len, within)))

    row_other : (a b : ℕ) → a ≢ p → bit_of (set rows p row) a b ≡ bit_of rows a b
    row_other a b n = ap (λ m. is_set m b) (get_or-set_other rows p a row 0 n)

    list_same : get_or (set lists p list) p [] ≡ list
    list_same = get_or-set_same lists p list [] (omega (arith, are.lists_len, within))

    list_other : (a : ℕ) → a ≢ p → get_or (set lists p list) a [] ≡ get_or lists a []
    list_other a n = get_or-set_other lists p a list [] n

    pub rows_set : ((b : ℕ) → is_set row b ≡ true → b < length ms) → ((z : ℕ) → is_in list z ≡ true → is_in ms z ≡ false) → AreRows ms (set rows p row) (set lists p list)
    rows_set inside others = record {
      rows_len = length-set rows p row ∙ are.rows_len;
      lists_len = length-set lists p list ∙ are.lists_len;
      inside = λ a b h. elim (cases_eq a p) [
        | inl is ↦ inside b (sym (ap (λ k. bit_of (set rows p row) k b) is ∙ row_same b) ∙ h)
        | inr n ↦ are.inside a b (sym (row_other a b n) ∙ h)
      ];
      elsewhere = λ a z h. elim (cases_eq a p) [
        | inl is ↦ others z (sym (ap (λ k. is_in (get_or (set lists p list) k []) z) is ∙ ap (λ xs. is_in xs z) list_same) ∙ h)
        | inr n ↦ are.elsewhere a z (sym (ap (λ xs. is_in xs z) (list_other a n)) ∙ h)
      ];
    }

  -- it waits for nobody
  pub rows_cleared : AreRows ms (set rows p 0) (set lists p [])
  rows_cleared = rows_set 0 [] (λ b h. absurd (true≢false (sym h ∙ no_bit b))) (λ z h. absurd (true≢false (sym h)))

  pub cleared : relation_of ms (set rows p 0) (set lists p []) ≡ only_firsts (relation_of ms rows lists) (λ z. not (z == x))
  cleared = relation_is ms (set rows p 0) (set lists p []) up rows_cleared (only_firsts (relation_of ms rows lists) (λ z. not (z == x)))
      (λ i j a b. elim (cases_eq i p) [
        | inl is ↦ ap (λ k. bit_of (set rows p 0) k j) is ∙ row_same 0 [] j ∙ no_bit j ∙ sym (only i (get_or ms j 0) a ∙ gone i (has (relation_of ms rows lists) (get_or ms i 0) (get_or ms j 0)) is)
        | inr n ↦ row_other 0 [] i j n ∙ sym (has_bit_at ms rows lists up are i j (get_or ms i 0) (get_or ms j 0) a b refl refl) ∙ sym (only i (get_or ms j 0) a ∙ kept i (has (relation_of ms rows lists) (get_or ms i 0) (get_or ms j 0)) n)
      ])
      (λ i y a away. elim (cases_eq i p) [
        | inl is ↦ ap (λ k. is_in (get_or (set lists p []) k []) y) is ∙ ap (λ xs. is_in xs y) (list_same 0 []) ∙ sym (only i y a ∙ gone i (has (relation_of ms rows lists) (get_or ms i 0) y) is)
        | inr n ↦ ap (λ xs. is_in xs y) (list_other 0 [] i n) ∙ sym (has_listed ms rows lists up are i (get_or ms i 0) y a refl away) ∙ sym (only i y a ∙ kept i (has (relation_of ms rows lists) (get_or ms i 0) y) n)
      ])
      (λ z y away. has-only (relation_of ms rows lists) (λ w. not (w == x)) z y ∙ ap (λ b. b && not (z == x)) (has_none ms rows lists up are z y away))
    where
      only : (i y : ℕ) → i < length ms → has (only_firsts (relation_of ms rows lists) (λ w. not (w == x))) (get_or ms i 0) y ≡ (has (relation_of ms rows lists) (get_or ms i 0) y && not (i == p))
      only i y a = has-only (relation_of ms rows lists) (λ w. not (w == x)) (get_or ms i 0) y ∙ ap (λ b. has (relation_of ms rows lists) (get_or ms i 0) y && not b) (first_is i a)

      gone : (i : ℕ) (h : Bool) → i ≡ p → (h && not (i == p)) ≡ false
      gone i h is = ap (λ b. h && not b) (eq-eqb i p is) ∙ and-false h

      kept : (i : ℕ) (h : Bool) → i ≢ p → (h && not (i == p)) ≡ h
      kept i h n = ap (λ b. h && not b) (ne_eqb i p n) ∙ and-true h

  -- it waits for the targets
  module _ (targets : List ℕ) (row : ℕ) (list : List ℕ) (bits : (k : ℕ) → is_set row k ≡ is_at_in ms targets k) (is_list : list ≡ filter (λ k. not (is_in ms k)) targets) where
    in_list : (y : ℕ) → is_in list y ≡ (not (is_in ms y) && is_in targets y)
    in_list y = ap (λ xs. is_in xs y) is_list ∙ any-filter_same (λ q. q == y) (λ k. not (is_in ms k)) (not (is_in ms y)) (λ k h. ap (λ z. not (is_in ms z)) (eqb-true k y h)) targets

    pub rows_asked : AreRows ms (set rows p row) (set lists p list)
    rows_asked = rows_set row list
        (λ b h. ltb-true b (length ms) (and_parts (nat_lt b (length ms)) (is_in targets (get_or ms b 0)) (sym (bits b) ∙ h)).0)
        (λ z h. not-true (is_in ms z) (and_parts (not (is_in ms z)) (is_in targets z) (sym (in_list z) ∙ h)).0)

    pub waits_asked : has_some (relation_of ms rows lists) x ≡ false → relation_of ms (set rows p row) (set lists p list) ≡ with_each (relation_of ms rows lists) x targets
    waits_asked active = relation_is ms (set rows p row) (set lists p list) up rows_asked (with_each (relation_of ms rows lists) x targets)
        (λ i j a b. elim (cases_eq i p) [
          | inl is ↦
              ap (λ k. bit_of (set rows p row) k j) is ∙ row_same row list j ∙ bits j ∙ ap (λ t. t && is_in targets (get_or ms j 0)) (lt-ltb j (length ms) b)
              ∙ sym (asks i (get_or ms j 0) is)
          | inr n ↦
              row_other row list i j n ∙ sym (has_bit_at ms rows lists up are i j (get_or ms i 0) (get_or ms j 0) a b refl refl)
              ∙ sym (has-with_each_other (relation_of ms rows lists) x targets (get_or ms i 0) (get_or ms j 0) (apart i a n))
        ])
        (λ i y a away. elim (cases_eq i p) [
          | inl is ↦
              ap (λ k. is_in (get_or (set lists p list) k []) y) is ∙ ap (λ xs. is_in xs y) (list_same row list) ∙ in_list y ∙ ap (λ t. not t && is_in targets y) away
              ∙ sym (asks i y is)
          | inr n ↦
              ap (λ xs. is_in xs y) (list_other row list i n) ∙ sym (has_listed ms rows lists up are i (get_or ms i 0) y a refl away)
              ∙ sym (has-with_each_other (relation_of ms rows lists) x targets (get_or ms i 0) y (apart i a n))
        ])
        (λ z y away. has-with_each_other (relation_of ms rows lists) x targets z y (λ h. true≢false (sym (in_at ms p x within e) ∙ ap (is_in ms) (sym h) ∙ away)) ∙ has_none ms rows lists up are z y away)
      where
        asks : (i y : ℕ) → i ≡ p → has (with_each (relation_of ms rows lists) x targets) (get_or ms i 0) y ≡ is_in targets y
        asks i y is =
            ap (λ z. has (with_each (relation_of ms rows lists) x targets) z y) (ap (λ k. get_or ms k 0) is ∙ e)
            ∙ has-with_each (relation_of ms rows lists) x targets y ∙ ap (λ t. is_in targets y || t) (has-none (relation_of ms rows lists) x y active) ∙ or-false (is_in targets y)

        apart : (i : ℕ) → i < length ms → i ≢ p → get_or ms i 0 ≢ x
        apart i a n h = true≢false (sym (eq-eqb (get_or ms i 0) x h) ∙ first_is i a ∙ ne_eqb i p n)

  -- ---- what the members owe it

  module _ (targets rows' : List ℕ) (len : length rows' ≡ length rows) where
    since : (i j : ℕ) → i < length ms → j < length ms → owes_since (λ q. is_in ms q) x targets (get_or ms i 0) (get_or ms j 0) ≡ ((j == p) && is_at_in ms targets i)
    since i j a b =
        ap (λ t. t && (is_in ms (get_or ms i 0) && is_in targets (get_or ms i 0))) (first_is j b)
        ∙ ap (λ t. (j == p) && (t && is_in targets (get_or ms i 0))) (in_at ms i (get_or ms i 0) a refl ∙ sym (lt-ltb i (length ms) a))

    since_away : (z y : ℕ) → is_in ms y ≡ false → owes_since (λ q. is_in ms q) x targets z y ≡ false
    since_away z y away = ap (λ t. t && (is_in ms z && is_in targets z)) (not_asker y away)

    module _ (bits : (a b : ℕ) → bit_of rows' a b ≡ (((b == p) && is_at_in ms targets a) || bit_of rows a b)) where
      pub rows_owing : AreRows ms rows' lists
      rows_owing = record {
        rows_len = len ∙ are.rows_len;
        lists_len = are.lists_len;
        inside = λ a b h. elim (cases_eq b p) [
          | inl is ↦ omega (arith, is, within)
          | inr n ↦ are.inside a b (sym (bits a b ∙ ap (λ t. (t && is_at_in ms targets a) || bit_of rows a b) (ne_eqb b p n)) ∙ h)
        ];
        elsewhere = are.elsewhere;
      }

      pub owed_asked : relation_of ms rows' lists ≡ owed_after_ask (λ q. is_in ms q) (relation_of ms rows lists) x targets
      owed_asked = relation_is ms rows' lists up rows_owing (owed_after_ask (λ q. is_in ms q) (relation_of ms rows lists) x targets)
          (λ i j a b.
          bits i j ∙ ap (λ t. t || bit_of rows i j) (sym (since i j a b))
          ∙ ap (λ t. owes_since (λ q. is_in ms q) x targets (get_or ms i 0) (get_or ms j 0) || t) (sym (has_bit_at ms rows lists up are i j (get_or ms i 0) (get_or ms j 0) a b refl refl))
          ∙ sym (has-after_ask (λ q. is_in ms q) (relation_of ms rows lists) x targets (get_or ms i 0) (get_or ms j 0)))
          (λ i y a away.
          sym (has_listed ms rows lists up are i (get_or ms i 0) y a refl away)
          ∙ sym (has-after_ask (λ q. is_in ms q) (relation_of ms rows lists) x targets (get_or ms i 0) y ∙ ap (λ t. t || has (relation_of ms rows lists) (get_or ms i 0) y) (since_away (get_or ms i 0) y away)))
          (λ z y away.
          has-after_ask (λ q. is_in ms q) (relation_of ms rows lists) x targets z y ∙ ap (λ t. owes_since (λ q. is_in ms q) x targets z y || t) (has_none ms rows lists up are z y away)
          ∙ or-false (owes_since (λ q. is_in ms q) x targets z y) ∙ ap (λ t. (y == x) && (t && is_in targets z)) away ∙ and-false (y == x))

    module _ (bits : (a b : ℕ) → bit_of rows' a b ≡ (not ((b == p) && is_at_in ms targets a) && bit_of rows a b)) where
      pub rows_freed : AreRows ms rows' lists
      rows_freed = record {
        rows_len = len ∙ are.rows_len;
        lists_len = are.lists_len;
        inside = λ a b h. are.inside a b (and_parts (not ((b == p) && is_at_in ms targets a)) (bit_of rows a b) (sym (bits a b) ∙ h)).1;
        elsewhere = are.elsewhere;
      }

      pub owed_freed : relation_of ms rows' lists ≡ owed_before_ask (λ q. is_in ms q) (relation_of ms rows lists) x targets
      owed_freed = relation_is ms rows' lists up rows_freed (owed_before_ask (λ q. is_in ms q) (relation_of ms rows lists) x targets)
          (λ i j a b.
          bits i j ∙ ap (λ t. not t && bit_of rows i j) (sym (since i j a b))
          ∙ ap (λ t. not (owes_since (λ q. is_in ms q) x targets (get_or ms i 0) (get_or ms j 0)) && t) (sym (has_bit_at ms rows lists up are i j (get_or ms i 0) (get_or ms j 0) a b refl refl))
          ∙ sym (has-before_ask (λ q. is_in ms q) (relation_of ms rows lists) x targets (get_or ms i 0) (get_or ms j 0)))
          (λ i y a away.
          sym (has_listed ms rows lists up are i (get_or ms i 0) y a refl away)
          ∙ sym (has-before_ask (λ q. is_in ms q) (relation_of ms rows lists) x targets (get_or ms i 0) y ∙ ap (λ t. not t && has (relation_of ms rows lists) (get_or ms i 0) y) (since_away (get_or ms i 0) y away)))
          (λ z y away.
          has-before_ask (λ q. is_in ms q) (relation_of ms rows lists) x targets z y ∙ ap (λ t. not (owes_since (λ q. is_in ms q) x targets z y) && t) (has_none ms rows lists up are z y away)
          ∙ and-false (not (owes_since (λ q. is_in ms q) x targets z y)))

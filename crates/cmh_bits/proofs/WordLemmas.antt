-- Words as a set of numbers, word by word.
use Rattle.std.proofs.Common.{inl, inr, ◌≡◌, ℕ, ◌+◌, ◌*◌, ◌/◌, ◌%◌, ◌<◌, ◌≤◌, Bool, true, false, not, ◌&&◌, ◌||◌, ◌==◌, List, length, get_or, set, replicate, sym, ap, ◌∙◌, arith, true≢false}
use Rattle.std.specs.Int.Bits.{bit_and}
use Rattle.std.proofs.lemmas.Bool.{eq-eqb, ne_eqb, cases_eq, cases_lt, and_parts, and_from}
use Rattle.std.proofs.lemmas.List.{get_or_default, get_or_past, get_or-replicate, get_or-set_same, get_or-set_other, length-replicate, length-set}
use Rattle.cmh_bits.specs.Bits.{has_number, is_set}
use Rattle.cmh_bits.proofs.BitLemmas.{both_bit, no_bit}

pub word_at : (xs : List ℕ) (i x : ℕ) → i < length xs → x ≡ get_or xs i x → get_or xs i 0 ≡ x
word_at xs i x l here = sym (here ∙ get_or_default xs i x 0 l)

-- the number of a bit of a word
word_of : (at p : ℕ) → p < 64 → (at * 64 + p) / 64 ≡ at
word_of at p l = omega arith

bit_of : (at p : ℕ) → p < 64 → (at * 64 + p) % 64 ≡ p
bit_of at p l = omega arith

pub has_at : (xs : List ℕ) (at p : ℕ) → p < 64 → has_number xs (at * 64 + p) ≡ is_set (get_or xs at 0) p
has_at xs at p l = ap (λ q. is_set (get_or xs q 0) ((at * 64 + p) % 64)) (word_of at p l) ∙ ap (λ b. is_set (get_or xs at 0) b) (bit_of at p l)

-- words have no number past their end
pub none_past : (xs : List ℕ) (k : ℕ) → length xs ≤ k / 64 → has_number xs k ≡ false
none_past xs k past = ap (λ w. is_set w (k % 64)) (get_or_past xs (k / 64) 0 past) ∙ no_bit (k % 64)

pub within_words : (xs : List ℕ) (k : ℕ) → has_number xs k ≡ true → k / 64 < length xs
within_words xs k has = elim (cases_lt (k / 64) (length xs)) [ inl l ↦ l | inr past ↦ absurd (true≢false (sym has ∙ none_past xs k past)) ]

-- ---- words that others change

-- the words below `at` were changed bit by bit by other words, and the others not
pub record AreChanged (f : Bool → Bool → Bool) (new old other : List ℕ) (at : ℕ) : Type 0 where
  pub same : length new ≡ length old
  pub done : (q k : ℕ) → q < at → is_set (get_or new q 0) k ≡ f (is_set (get_or old q 0) k) (is_set (get_or other q 0) k)
  pub rest : (q : ℕ) → at ≤ q → get_or new q 0 ≡ get_or old q 0

abbrev pub either : Bool → Bool → Bool
either a b = a || b

abbrev pub beyond : Bool → Bool → Bool
beyond a b = a && not b

pub changed_start : (f : Bool → Bool → Bool) (now old other : List ℕ) → now ≡ old → AreChanged f now old other 0
changed_start f now old other e = record { same = ap length e; done = λ q k l. absurd (omega arith); rest = λ q l. ap (λ xs. get_or xs q 0) e }

pub changed_more : (f : Bool → Bool → Bool) (new old other : List ℕ) (at w v u : ℕ) → AreChanged f new old other at → at < length old → length other ≡ length old → w ≡ get_or new at w → v ≡ get_or other at v
    → ((k : ℕ) → is_set u k ≡ f (is_set w k) (is_set v k)) → AreChanged f (set new at u) old other (at + 1)
changed_more f new old other at w v u is l long here there bits =
    let inside : at < length new = let e = is.same in omega (arith, e, l) in
    let beside : at < length other = omega (arith, long, l) in
    record {
      same = length-set new at u ∙ is.same;
      done = λ q k below. elim (cases_eq q at) [
        | inl e ↦
            let old_word : get_or old q 0 ≡ w = ap (λ i. get_or old i 0) e ∙ sym (is.rest at (omega arith)) ∙ word_at new at w inside here in
            let other_word : get_or other q 0 ≡ v = ap (λ i. get_or other i 0) e ∙ word_at other at v beside there in
            ap (λ i. is_set (get_or (set new at u) i 0) k) e ∙ ap (λ x. is_set x k) (get_or-set_same new at u 0 inside) ∙ bits k
            ∙ ap (λ x. f (is_set x k) (is_set v k)) (sym old_word) ∙ ap (λ x. f (is_set (get_or old q 0) k) (is_set x k)) (sym other_word)
        | inr ne ↦ ap (λ x. is_set x k) (get_or-set_other new at q u 0 ne) ∙ is.done q k (omega arith)
      ];
      rest = λ q above. get_or-set_other new at q u 0 (λ e. absurd (omega (arith, e, above))) ∙ is.rest q (omega arith);
    }

pub changed_bits : (f : Bool → Bool → Bool) (new old other : List ℕ) (at : ℕ) → f false false ≡ false → AreChanged f new old other at → length old ≤ at → length other ≡ length old
    → (q k : ℕ) → is_set (get_or new q 0) k ≡ f (is_set (get_or old q 0) k) (is_set (get_or other q 0) k)
changed_bits f new old other at none is all long q k = elim (cases_lt q at) [
  | inl l ↦ is.done q k l
  | inr past ↦
      let e = is.same in
      no_word new (omega (arith, e, all, past)) ∙ sym none
      ∙ ap (λ b. f b false) (sym (no_word old (omega (arith, all, past)))) ∙ ap (λ b. f (is_set (get_or old q 0) k) b) (sym (no_word other (omega (arith, all, past, long))))
]
  where
    no_word : (xs : List ℕ) → length xs ≤ q → is_set (get_or xs q 0) k ≡ false
    no_word xs past = ap (λ w. is_set w k) (get_or_past xs q 0 past) ∙ no_bit k

-- ---- one more number

-- in the word of a number its bit was set
pub inserted : (xs : List ℕ) (place w u k : ℕ) → place / 64 < length xs → w ≡ get_or xs (place / 64) w → ((b : ℕ) → is_set u b ≡ ((b == place % 64) || is_set w b))
    → has_number (set xs (place / 64) u) k ≡ ((k == place) || has_number xs k)
inserted xs place w u k l here bits = elim (cases_eq (k / 64) (place / 64)) [
  | inl e ↦
      ap (λ i. is_set (get_or (set xs (place / 64) u) i 0) (k % 64)) e ∙ ap (λ x. is_set x (k % 64)) (get_or-set_same xs (place / 64) u 0 l)
      ∙ bits (k % 64)
      ∙ ap (λ b. b || is_set w (k % 64)) (same_test e)
      ∙ ap (λ x. (k == place) || is_set x (k % 64)) (sym (ap (λ i. get_or xs i 0) e ∙ word_at xs (place / 64) w l here))
  | inr ne ↦
      ap (λ x. is_set x (k % 64)) (get_or-set_other xs (place / 64) (k / 64) u 0 ne)
      ∙ sym (ap (λ b. b || has_number xs k) (ne_eqb k place (λ e. ne (ap (λ n. n / 64) e))))
]
  where
    same_test : k / 64 ≡ place / 64 → (k % 64 == place % 64) ≡ (k == place)
    same_test e = elim (cases_eq k place) [
      | inl same ↦ eq-eqb (k % 64) (place % 64) (ap (λ n. n % 64) same) ∙ sym (eq-eqb k place same)
      | inr ne ↦ ne_eqb (k % 64) (place % 64) (λ bits. ne (omega (arith, e, bits))) ∙ sym (ne_eqb k place ne)
    ]

-- words of 0 have no number
pub none_of_zeros : (n k : ℕ) → has_number (replicate n 0) k ≡ false
none_of_zeros n k = elim (cases_lt (k / 64) n) [
  | inl inside ↦ ap (λ w. is_set w (k % 64)) (get_or-replicate n (k / 64) 0 0 inside) ∙ no_bit (k % 64)
  | inr past ↦ none_past (replicate n 0) k (let long = length-replicate {A = ℕ} n 0 in omega (arith, past, long))
]

-- ---- the first number that two have

module _ (xs ys : List ℕ) (at : ℕ) (before : (q : ℕ) → q < at → bit_and (get_or xs q 0) (get_or ys q 0) ≡ 0) where
  both_at : (k : ℕ) → has_number xs k ≡ true → has_number ys k ≡ true → is_set (bit_and (get_or xs (k / 64) 0) (get_or ys (k / 64) 0)) (k % 64) ≡ true
  both_at k h g = both_bit (get_or xs (k / 64) 0) (get_or ys (k / 64) 0) (k % 64) ∙ and_from (has_number xs k) (has_number ys k) h g

  not_before : (k : ℕ) → has_number xs k ≡ true → has_number ys k ≡ true → at ≤ k / 64
  not_before k h g = elim (cases_lt (k / 64) at) [
    | inl l ↦ absurd (true≢false (sym (both_at k h g) ∙ ap (λ w. is_set w (k % 64)) (before (k / 64) l) ∙ no_bit (k % 64)))
    | inr past ↦ past
  ]

  pub none_common : length xs ≤ at → (k : ℕ) → has_number xs k ≡ true → has_number ys k ≡ true → ⊥
  none_common all k h g = let l = within_words xs k h in let past = not_before k h g in absurd (omega (arith, l, past, all))

  module _ (a b p : ℕ) (left : get_or xs at 0 ≡ a) (right : get_or ys at 0 ≡ b) (small : p < 64) where
    pub common_here : is_set (bit_and a b) p ≡ true → (has_number xs (at * 64 + p) ≡ true) × (has_number ys (at * 64 + p) ≡ true)
    common_here both =
        let parts = and_parts (is_set a p) (is_set b p) (sym (both_bit a b p) ∙ both) in
        (has_at xs at p small ∙ ap (λ w. is_set w p) left ∙ parts.0, has_at ys at p small ∙ ap (λ w. is_set w p) right ∙ parts.1)

    pub common_least : ((k : ℕ) → is_set (bit_and a b) k ≡ true → p ≤ k) → (k : ℕ) → has_number xs k ≡ true → has_number ys k ≡ true → at * 64 + p ≤ k
    common_least least k h g =
        let past = not_before k h g in
        elim (cases_eq (k / 64) at) [
          | inl e ↦
              let bit = least (k % 64) (ap (λ w. is_set (bit_and w b) (k % 64)) (sym left) ∙ ap (λ w. is_set (bit_and (get_or xs at 0) w) (k % 64)) (sym right)
              ∙ ap (λ q. is_set (bit_and (get_or xs q 0) (get_or ys q 0)) (k % 64)) (sym e) ∙ both_at k h g) in
              omega (arith, e, bit)
          | inr ne ↦ omega (arith, past, ne, small)
        ]

-- One bit of a word, as it is set and cleared, and the bits of two words.
use Rattle.std.proofs.Common.{◌≡◌, ◌<◌, ◌≤◌, ◌+◌, ◌-◌, ◌^◌, ◌*◌, ◌%◌, ◌⊎◌, ℕ, cond, true, false, not, ◌&&◌, ◌||◌, ◌==◌, max, min, refl, sym, ap, ◌∙◌, subst, inl, inr, arith, true≢false, w64}
use Rattle.std.specs.Int.{bit_at, bit_not, trailing_zeros}
use Rattle.std.specs.Int.Bits.{bit_and, bit_or, bit_xor}
use Rattle.std.proofs.lemmas.Bool.{eq-eqb, ne_eqb, cases_Bool, cases_eq, cases_lt}
use Rattle.std.proofs.lemmas.Nat.{and_le_l, shl_whole}
use Rattle.std.proofs.lemmas.Nat.Bits.{bit_at_set_same, bit_at_set_other, bit_at_clear_same, bit_at_clear_other, bit_at_above, bit_at-zero, bit_at_and, bit_at_or, bit_at_not, bit_at_xor, bit_at-pow_same, bit_at-pow_other, bit_at-trailing_zeros, same_from_bits, bit_at-lt}
use Rattle.cmh_bits.specs.Bits.{is_set}

-- a 1 at the place, and all else as it was
pub set_bit : (n p k : ℕ) → p < 64 → is_set (bit_or n (1 * 2 ^ p % 2 ^ 64)) k ≡ ((k == p) || is_set n k)
set_bit n p k within = elim (cases_eq k p) [
  | inl e ↦ ap (λ b. is_set (bit_or n (1 * 2 ^ p % 2 ^ 64)) b) e ∙ ap (λ b. b == 1) (bit_at_set_same w64 n p within) ∙ sym (ap (λ b. b || is_set n k) (eq-eqb k p e))
  | inr e ↦ ap (λ b. b == 1) (bit_at_set_other w64 n p within k e) ∙ sym (ap (λ b. b || is_set n k) (ne_eqb k p e))
]

-- a 0 at the place, and all else as it was
pub cleared_bit : (n p k : ℕ) → n < 2 ^ 64 → p < 64 → is_set (bit_and n (bit_not w64 (1 * 2 ^ p % 2 ^ 64))) k ≡ (not (k == p) && is_set n k)
cleared_bit n p k fits within = elim (cases_eq k p) [
  | inl e ↦ ap (λ b. is_set (bit_and n (bit_not w64 (1 * 2 ^ p % 2 ^ 64))) b) e ∙ ap (λ b. b == 1) (bit_at_clear_same w64 n p within) ∙ sym (ap (λ b. not b && is_set n k) (eq-eqb k p e))
  | inr e ↦ elim (cases_lt k 64) [
    | inl below ↦ ap (λ b. b == 1) (bit_at_clear_other w64 n p within k below e) ∙ sym (ap (λ b. not b && is_set n k) (ne_eqb k p e))
    | inr above ↦
        let less = and_le_l n (bit_not w64 (1 * 2 ^ p % 2 ^ 64)) in
        ap (λ b. b == 1) (bit_at_above (bit_and n (bit_not w64 (1 * 2 ^ p % 2 ^ 64))) 64 k (omega (arith, less, fits)) above ∙ sym (bit_at_above n 64 k fits above)) ∙ sym (ap (λ b. not b && is_set n k) (ne_eqb k p e))
  ]
]

-- 0 has no bit
pub no_bit : (k : ℕ) → is_set 0 k ≡ false
no_bit k = ap (λ b. b == 1) (bit_at-zero k)

-- a word without a bit is 0
pub none_set : (n : ℕ) → ((k : ℕ) → is_set n k ≡ false) → n ≡ 0
none_set n none = same_from_bits n 0 (λ k. zero_bit (bit_at n k) (bit_at-lt n k) (none k) ∙ sym (bit_at-zero k))
  where
    zero_bit : (b : ℕ) → b < 2 → (b == 1) ≡ false → b ≡ 0
    zero_bit b less h = elim (cases_eq b 1) [
      | inl e ↦ absurd (true_false (sym (eq-eqb b 1 e) ∙ h))
      | inr e ↦ omega arith
    ]
      where
        true_false : true ≡ false → ⊥
        true_false e = cc e

bit_cases : (x : ℕ) → x < 2 → (x ≡ 0) ⊎ (x ≡ 1)
bit_cases x less = elim (cases_eq x 0) [ inl e ↦ inl e | inr n ↦ inr (omega arith) ]

-- what holds of the four pairs of bits holds of any two
pub two_bits : (P : ℕ → ℕ → Type 0) → P 0 0 → P 0 1 → P 1 0 → P 1 1 → (x y : ℕ) → x < 2 → y < 2 → P x y
two_bits P a b c d x y less below = elim (bit_cases x less) [
  | inl e ↦ elim (bit_cases y below) [ inl f ↦ subst (λ z. P z y) (sym e) (subst (P 0) (sym f) a) | inr f ↦ subst (λ z. P z y) (sym e) (subst (P 0) (sym f) b) ]
  | inr e ↦ elim (bit_cases y below) [ inl f ↦ subst (λ z. P z y) (sym e) (subst (P 1) (sym f) c) | inr f ↦ subst (λ z. P z y) (sym e) (subst (P 1) (sym f) d) ]
]

pub lowest_bit : (n : ℕ) → 0 < n → n < 2 ^ 64 → is_set n (trailing_zeros w64 n) ≡ true
lowest_bit n some fits = eq-eqb (bit_at n (trailing_zeros w64 n)) 1 (bit_at-trailing_zeros w64 n some fits).1

-- a word that loses a bit gets less
pub less_without : (n p : ℕ) → n < 2 ^ 64 → p < 64 → is_set n p ≡ true → bit_and n (bit_not w64 (1 * 2 ^ p % 2 ^ 64)) < n
less_without n p fits within set =
    let most = and_le_l n (bit_not w64 (1 * 2 ^ p % 2 ^ 64)) in
    elim (cases_eq (bit_and n (bit_not w64 (1 * 2 ^ p % 2 ^ 64))) n) [
      | inl e ↦ absurd (true≢false (sym set ∙ ap (λ m. is_set m p) (sym e) ∙ cleared_bit n p p fits within ∙ ap (λ b. not b && is_set n p) (eq-eqb p p refl)))
      | inr ne ↦ omega (arith, most, ne)
    ]

one_times : (n : ℕ) → 1 * n ≡ n
one_times n = omega arith

one_shl : (k : ℕ) → k < 64 → 1 * 2 ^ k % 2 ^ 64 ≡ 2 ^ k
one_shl k within = shl_whole 1 1 k 64 (omega arith) (omega arith) ∙ one_times (2 ^ k)

-- a 1 at one place
pub one_bit : (p k : ℕ) → p < 64 → is_set (1 * 2 ^ p % 2 ^ 64) k ≡ (k == p)
one_bit p k within = elim (cases_eq k p) [
  | inl e ↦ ap (λ j. is_set (1 * 2 ^ p % 2 ^ 64) j) e ∙ ap (λ n. is_set n p) (one_shl p within) ∙ eq-eqb (bit_at (2 ^ p) p) 1 (bit_at-pow_same p) ∙ sym (eq-eqb k p e)
  | inr n ↦ ap (λ m. is_set m k) (one_shl p within) ∙ ap (λ m. m == 1) (bit_at-pow_other p k n) ∙ sym (ne_eqb k p n)
]

-- the other bit at one place
pub flipped_bit : (n p k : ℕ) → p < 64 → is_set (bit_xor n (1 * 2 ^ p % 2 ^ 64)) k ≡ cond (k == p) (not (is_set n k)) (is_set n k)
flipped_bit n p k within =
    let one = 1 * 2 ^ p % 2 ^ 64 in
    ap (λ b. b == 1) (bit_at_xor n one k)
    ∙ two_bits (λ x y. ((x + y) % 2 == 1) ≡ cond (y == 1) (not (x == 1)) (x == 1)) refl refl refl refl (bit_at n k) (bit_at one k) (bit_at-lt n k) (bit_at-lt one k)
    ∙ ap (λ t. cond t (not (is_set n k)) (is_set n k)) (one_bit p k within)

-- the lowest bit is the least
pub lowest_least : (n k : ℕ) → 0 < n → n < 2 ^ 64 → is_set n k ≡ true → trailing_zeros w64 n ≤ k
lowest_least n k some fits set = elim (cases_lt k (trailing_zeros w64 n)) [
  | inl below ↦ absurd (true≢false (sym set ∙ ap (λ b. b == 1) ((bit_at-trailing_zeros w64 n some fits).2 k below)))
  | inr above ↦ above
]

-- the bits of either
pub either_bit : (a b k : ℕ) → is_set (bit_or a b) k ≡ (is_set a k || is_set b k)
either_bit a b k = ap (λ n. n == 1) (bit_at_or a b k) ∙ two_bits (λ x y. (max x y == 1) ≡ ((x == 1) || (y == 1))) refl refl refl refl (bit_at a k) (bit_at b k) (bit_at-lt a k) (bit_at-lt b k)

-- the bits of the first that the second lacks
pub beyond_bit : (a b k : ℕ) → a < 2 ^ 64 → b < 2 ^ 64 → is_set (bit_and a (bit_not w64 b)) k ≡ (is_set a k && not (is_set b k))
beyond_bit a b k fits within = elim (cases_lt k 64) [
  | inl below ↦
      ap (λ n. n == 1) (bit_at_and a (bit_not w64 b) k ∙ ap (λ n. min (bit_at a k) n) (bit_at_not w64 b k within below))
      ∙ two_bits (λ x y. (min x (1 - y) == 1) ≡ ((x == 1) && not (y == 1))) refl refl refl refl (bit_at a k) (bit_at b k) (bit_at-lt a k) (bit_at-lt b k)
  | inr above ↦
      let less = and_le_l a (bit_not w64 b) in
      ap (λ n. n == 1) (bit_at_above (bit_and a (bit_not w64 b)) 64 k (omega (arith, less, fits)) above)
      ∙ sym (ap (λ n. (n == 1) && not (is_set b k)) (bit_at_above a 64 k fits above))
]

-- the bits of both
pub both_bit : (a b k : ℕ) → is_set (bit_and a b) k ≡ (is_set a k && is_set b k)
both_bit a b k = ap (λ n. n == 1) (bit_at_and a b k) ∙ two_bits (λ x y. (min x y == 1) ≡ ((x == 1) && (y == 1))) refl refl refl refl (bit_at a k) (bit_at b k) (bit_at-lt a k) (bit_at-lt b k)

-- no bit stands below the least
pub none_below : (n p : ℕ) → ((k : ℕ) → is_set n k ≡ true → p ≤ k) → (k : ℕ) → k < p → is_set n k ≡ false
none_below n p least k below = elim (cases_Bool (is_set n k)) [
  | inl set ↦ let above = least k set in absurd (omega (arith, above, below))
  | inr none ↦ none
]

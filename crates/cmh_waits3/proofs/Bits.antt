-- Places as the bits of words.
use Rattle.std.proofs.Common.{◌≡◌, ◌≢◌, ◌<◌, ◌≤◌, ◌+◌, ◌-◌, ◌*◌, ◌/◌, ◌%◌, ◌^◌, ◌⊎◌, ℕ, zero, suc, Bool, true, false, not, ◌&&◌, ◌||◌, ◌==◌, List, [], ◌∷◌, length, get_or, set, max, min, nat_lt, refl, sym, ap, ◌∙◌, subst, inl, inr, arith, w64}
use Rattle.std.specs.Int.{bit_at, bit_not, trailing_zeros}
use Rattle.std.specs.Int.Bits.{bit_and, bit_or}
use Rattle.std.proofs.lemmas.Bool.{eq-eqb, ne_eqb, cases_eq, cases_lt, le-ltb, lt-ltb}
use Rattle.std.proofs.lemmas.List.{get_or_default, get_or_past, get_or-set_same, get_or-set_other}
use Rattle.std.proofs.lemmas.Nat.{shl_whole}
use Rattle.std.proofs.lemmas.Nat.Bits.{bit_at_set_same, bit_at_set_other, bit_at_clear_same, bit_at_clear_other, bit_at_above, bit_at-zero, bit_at_and, bit_at_or, bit_at_not, bit_at-pow_same, bit_at-pow_other, bit_at-trailing_zeros, bit_at-lt}
use Rattle.cmh_waits3.specs.Inner.Steps.{has_place, is_set}

-- ---- one word

-- 0 has no bit
pub no_bit : (k : ℕ) → is_set 0 k ≡ false
no_bit k = ap (λ b. b == 1) (bit_at-zero k)

-- a 1 at the place, and all else as it was
set_bit : (n p k : ℕ) → p < 64 → is_set (bit_or n (1 * 2 ^ p % 2 ^ 64)) k ≡ ((k == p) || is_set n k)
set_bit n p k within = elim (cases_eq k p) [
  | inl e ↦ ap (λ b. is_set (bit_or n (1 * 2 ^ p % 2 ^ 64)) b) e ∙ ap (λ b. b == 1) (bit_at_set_same w64 n p within) ∙ sym (ap (λ b. b || is_set n k) (eq-eqb k p e))
  | inr e ↦ ap (λ b. b == 1) (bit_at_set_other w64 n p within k e) ∙ sym (ap (λ b. b || is_set n k) (ne_eqb k p e))
]

-- a 0 at the place, and all else of the word as it was
cleared_bit : (n p k : ℕ) → p < 64 → k < 64 → is_set (bit_and n (bit_not w64 (1 * 2 ^ p % 2 ^ 64))) k ≡ (not (k == p) && is_set n k)
cleared_bit n p k within below = elim (cases_eq k p) [
  | inl e ↦ ap (λ b. is_set (bit_and n (bit_not w64 (1 * 2 ^ p % 2 ^ 64))) b) e ∙ ap (λ b. b == 1) (bit_at_clear_same w64 n p within) ∙ sym (ap (λ b. not b && is_set n k) (eq-eqb k p e))
  | inr e ↦ ap (λ b. b == 1) (bit_at_clear_other w64 n p within k below e) ∙ sym (ap (λ b. not b && is_set n k) (ne_eqb k p e))
]

bit_cases : (x : ℕ) → x < 2 → (x ≡ 0) ⊎ (x ≡ 1)
bit_cases x less = elim (cases_eq x 0) [ inl e ↦ inl e | inr n ↦ inr (omega arith) ]

-- what holds of the four pairs of bits holds of any two
two_bits : (P : ℕ → ℕ → Type 0) → P 0 0 → P 0 1 → P 1 0 → P 1 1 → (x y : ℕ) → x < 2 → y < 2 → P x y
two_bits P a b c d x y less below = elim (bit_cases x less) [
  | inl e ↦ elim (bit_cases y below) [ inl f ↦ subst (λ z. P z y) (sym e) (subst (P 0) (sym f) a) | inr f ↦ subst (λ z. P z y) (sym e) (subst (P 0) (sym f) b) ]
  | inr e ↦ elim (bit_cases y below) [ inl f ↦ subst (λ z. P z y) (sym e) (subst (P 1) (sym f) c) | inr f ↦ subst (λ z. P z y) (sym e) (subst (P 1) (sym f) d) ]
]

-- the bits of either
pub either_bit : (a b k : ℕ) → is_set (bit_or a b) k ≡ (is_set a k || is_set b k)
either_bit a b k = ap (λ n. n == 1) (bit_at_or a b k) ∙ two_bits (λ x y. (max x y == 1) ≡ ((x == 1) || (y == 1))) refl refl refl refl (bit_at a k) (bit_at b k) (bit_at-lt a k) (bit_at-lt b k)

-- the bits of both
pub both_bit : (a b k : ℕ) → is_set (bit_and a b) k ≡ (is_set a k && is_set b k)
both_bit a b k = ap (λ n. n == 1) (bit_at_and a b k) ∙ two_bits (λ x y. (min x y == 1) ≡ ((x == 1) && (y == 1))) refl refl refl refl (bit_at a k) (bit_at b k) (bit_at-lt a k) (bit_at-lt b k)

-- the bits of the first that the second lacks
pub beyond_bit : (a b k : ℕ) → b < 2 ^ 64 → k < 64 → is_set (bit_and a (bit_not w64 b)) k ≡ (is_set a k && not (is_set b k))
beyond_bit a b k within below =
    ap (λ n. n == 1) (bit_at_and a (bit_not w64 b) k ∙ ap (λ n. min (bit_at a k) n) (bit_at_not w64 b k within below))
    ∙ two_bits (λ x y. (min x (1 - y) == 1) ≡ ((x == 1) && not (y == 1))) refl refl refl refl (bit_at a k) (bit_at b k) (bit_at-lt a k) (bit_at-lt b k)

pub lowest_bit : (n : ℕ) → 0 < n → n < 2 ^ 64 → is_set n (trailing_zeros w64 n) ≡ true
lowest_bit n some fits = eq-eqb (bit_at n (trailing_zeros w64 n)) 1 (bit_at-trailing_zeros w64 n some fits).1

-- ---- some words

word_at : (xs : List ℕ) (i x : ℕ) → i < length xs → x ≡ get_or xs i x → get_or xs i 0 ≡ x
word_at xs i x l here = sym (here ∙ get_or_default xs i x 0 l)

pub has_at : (xs : List ℕ) (at p : ℕ) → p < 64 → has_place xs (at * 64 + p) ≡ is_set (get_or xs at 0) p
has_at xs at p l =
    let word : (at * 64 + p) / 64 ≡ at = omega (arith, l) in
    let bit : (at * 64 + p) % 64 ≡ p = omega (arith, l) in
    ap (λ q. is_set (get_or xs q 0) ((at * 64 + p) % 64)) word ∙ ap (λ b. is_set (get_or xs at 0) b) bit

-- there is no place past the words
pub none_past : (xs : List ℕ) (k : ℕ) → length xs ≤ k / 64 → has_place xs k ≡ false
none_past xs k past = ap (λ w. is_set w (k % 64)) (get_or_past xs (k / 64) 0 past) ∙ no_bit (k % 64)

pub none_of_zeros : (xs : List ℕ) → ((q : ℕ) → q < length xs → get_or xs q 0 ≡ 0) → (k : ℕ) → has_place xs k ≡ false
none_of_zeros xs zeros k = elim (cases_lt (k / 64) (length xs)) [
  | inl l ↦ ap (λ w. is_set w (k % 64)) (zeros (k / 64) l) ∙ no_bit (k % 64)
  | inr past ↦ none_past xs k past
]

same_test : (k place : ℕ) → k / 64 ≡ place / 64 → (k % 64 == place % 64) ≡ (k == place)
same_test k place e = elim (cases_eq k place) [
  | inl same ↦ eq-eqb (k % 64) (place % 64) (ap (λ n. n % 64) same) ∙ sym (eq-eqb k place same)
  | inr ne ↦ ne_eqb (k % 64) (place % 64) (λ bits. ne (omega (arith, e, bits))) ∙ sym (ne_eqb k place ne)
]

-- the word of a place changed, and in it the bit of the place
changed : (xs : List ℕ) (place w u k : ℕ) (f : Bool → Bool → Bool) → ((b : Bool) → f false b ≡ b) → place / 64 < length xs → w ≡ get_or xs (place / 64) w
    → ((p : ℕ) → p < 64 → is_set u p ≡ f (p == place % 64) (is_set w p)) → has_place (set xs (place / 64) u) k ≡ f (k == place) (has_place xs k)
changed xs place w u k f keeps l here bits = elim (cases_eq (k / 64) (place / 64)) [
  | inl e ↦
      ap (λ i. is_set (get_or (set xs (place / 64) u) i 0) (k % 64)) e ∙ ap (λ x. is_set x (k % 64)) (get_or-set_same xs (place / 64) u 0 l)
      ∙ bits (k % 64) (omega arith)
      ∙ ap (λ b. f b (is_set w (k % 64))) (same_test k place e)
      ∙ ap (λ x. f (k == place) (is_set x (k % 64))) (sym (ap (λ i. get_or xs i 0) e ∙ word_at xs (place / 64) w l here))
  | inr ne ↦
      ap (λ x. is_set x (k % 64)) (get_or-set_other xs (place / 64) (k / 64) u 0 ne)
      ∙ sym (ap (λ b. f b (has_place xs k)) (ne_eqb k place (λ e. ne (ap (λ n. n / 64) e))) ∙ keeps (has_place xs k))
]

pub inserted : (xs : List ℕ) (place w k : ℕ) → place / 64 < length xs → w ≡ get_or xs (place / 64) w → has_place (set xs (place / 64) (bit_or w (1 * 2 ^ (place % 64) % 2 ^ 64))) k ≡ ((k == place) || has_place xs k)
inserted xs place w k l here = changed xs place w _ k (λ a b. a || b) (λ b. refl) l here (λ p _. set_bit w (place % 64) p (omega arith))

pub removed : (xs : List ℕ) (place w k : ℕ) → place / 64 < length xs → w ≡ get_or xs (place / 64) w
    → has_place (set xs (place / 64) (bit_and w (bit_not w64 (1 * 2 ^ (place % 64) % 2 ^ 64)))) k ≡ (not (k == place) && has_place xs k)
removed xs place w k l here = changed xs place w _ k (λ a b. not a && b) (λ b. refl) l here (λ p below. cleared_bit w (place % 64) p (omega arith) below)

-- ---- four words, bit by bit

pub pairwise : (f : Bool → Bool → Bool) → f false false ≡ false → (xs ys : List ℕ) → length xs ≡ 4 → length ys ≡ 4 → (p q r s : ℕ)
    → ((k : ℕ) → k < 64 → is_set p k ≡ f (is_set (get_or xs 0 0) k) (is_set (get_or ys 0 0) k))
    → ((k : ℕ) → k < 64 → is_set q k ≡ f (is_set (get_or xs 1 0) k) (is_set (get_or ys 1 0) k))
    → ((k : ℕ) → k < 64 → is_set r k ≡ f (is_set (get_or xs 2 0) k) (is_set (get_or ys 2 0) k))
    → ((k : ℕ) → k < 64 → is_set s k ≡ f (is_set (get_or xs 3 0) k) (is_set (get_or ys 3 0) k))
    → (k : ℕ) → has_place (p ∷ q ∷ r ∷ s ∷ []) k ≡ f (has_place xs k) (has_place ys k)
pairwise f none xs ys long other p q r s first second third fourth k = go (k / 64) (k % 64) (omega arith)
  where
    no_word : (zs : List ℕ) → length zs ≡ 4 → (at bit : ℕ) → 4 ≤ at → is_set (get_or zs at 0) bit ≡ false
    no_word zs four at bit past = ap (λ w. is_set w bit) (get_or_past zs at 0 (omega (arith, four, past))) ∙ no_bit bit

    go : (at bit : ℕ) → bit < 64 → is_set (get_or (p ∷ q ∷ r ∷ s ∷ []) at 0) bit ≡ f (is_set (get_or xs at 0) bit) (is_set (get_or ys at 0) bit)
    go zero bit small = first bit small
    go (suc zero) bit small = second bit small
    go (suc (suc zero)) bit small = third bit small
    go (suc (suc (suc zero))) bit small = fourth bit small
    go (suc (suc (suc (suc more)))) bit small =
        no_bit bit ∙ sym (ap (λ x. f x (is_set (get_or ys (suc (suc (suc (suc more)))) 0) bit)) (no_word xs long (suc (suc (suc (suc more)))) bit (omega arith))
        ∙ ap (f false) (no_word ys other (suc (suc (suc (suc more)))) bit (omega arith)) ∙ none)

-- the first word alone has the places below 64
pub low_word : (xs : List ℕ) (k : ℕ) → has_place (get_or xs 0 0 ∷ 0 ∷ 0 ∷ 0 ∷ []) k ≡ (nat_lt k 64 && has_place xs k)
low_word xs k = elim (cases_lt k 64) [
  | inl below ↦
      let first : k / 64 ≡ 0 = omega (arith, below) in
      ap (λ q. is_set (get_or (get_or xs 0 0 ∷ 0 ∷ 0 ∷ 0 ∷ []) q 0) (k % 64)) first
      ∙ sym (ap (λ z. z && has_place xs k) (lt-ltb k 64 below) ∙ ap (λ q. is_set (get_or xs q 0) (k % 64)) first)
  | inr above ↦
      let later : 0 < k / 64 = omega (arith, above) in
      go (k / 64) (k % 64) later ∙ sym (ap (λ z. z && has_place xs k) (le-ltb k 64 above))
]
  where
    go : (at bit : ℕ) → 0 < at → is_set (get_or (get_or xs 0 0 ∷ 0 ∷ 0 ∷ 0 ∷ []) at 0) bit ≡ false
    go zero bit some = absurd (omega (arith, some))
    go (suc zero) bit some = no_bit bit
    go (suc (suc zero)) bit some = no_bit bit
    go (suc (suc (suc zero))) bit some = no_bit bit
    go (suc (suc (suc (suc more)))) bit some = no_bit bit

-- ---- one place

one_bit : (p k : ℕ) → p < 64 → is_set (1 * 2 ^ p % 2 ^ 64) k ≡ (k == p)
one_bit p k within =
    let power : 1 * 2 ^ p % 2 ^ 64 ≡ 2 ^ p = shl_whole 1 1 p 64 (omega arith) (omega (arith, within)) ∙ one_times (2 ^ p) in
    ap (λ m. is_set m k) power ∙ elim (cases_eq k p) [
      | inl e ↦ ap (is_set (2 ^ p)) e ∙ eq-eqb (bit_at (2 ^ p) p) 1 (bit_at-pow_same p) ∙ sym (eq-eqb k p e)
      | inr n ↦ ap (λ m. m == 1) (bit_at-pow_other p k n) ∙ sym (ne_eqb k p n)
    ]
  where
    one_times : (n : ℕ) → 1 * n ≡ n
    one_times n = omega arith

-- the bit of a place in its word
pub bit_here : (word place j : ℕ) → word ≡ place / 64 → is_set (1 * 2 ^ (place % 64) % 2 ^ 64) j ≡ ((word == place / 64) && (j == place % 64))
bit_here word place j here = one_bit (place % 64) j (omega arith) ∙ sym (ap (λ b. b && (j == place % 64)) (eq-eqb word (place / 64) here))

pub only_one : (place p q r s : ℕ) → place < 256
    → ((j : ℕ) → j < 64 → is_set p j ≡ ((0 == place / 64) && (j == place % 64))) → ((j : ℕ) → j < 64 → is_set q j ≡ ((1 == place / 64) && (j == place % 64)))
    → ((j : ℕ) → j < 64 → is_set r j ≡ ((2 == place / 64) && (j == place % 64))) → ((j : ℕ) → j < 64 → is_set s j ≡ ((3 == place / 64) && (j == place % 64)))
    → (k : ℕ) → has_place (p ∷ q ∷ r ∷ s ∷ []) k ≡ (k == place)
only_one place p q r s small first second third fourth k = go (k / 64) refl
  where
    both : (at : ℕ) → k / 64 ≡ at → ((at == place / 64) && (k % 64 == place % 64)) ≡ (k == place)
    both at e = elim (cases_eq k place) [
      | inl same ↦
          ap (λ b. b && (k % 64 == place % 64)) (eq-eqb at (place / 64) (sym e ∙ ap (λ n. n / 64) same))
          ∙ eq-eqb (k % 64) (place % 64) (ap (λ n. n % 64) same)
          ∙ sym (eq-eqb k place same)
      | inr ne ↦ elim (cases_eq at (place / 64)) [
        | inl word ↦
            ap (λ b. b && (k % 64 == place % 64)) (eq-eqb at (place / 64) word)
            ∙ ne_eqb (k % 64) (place % 64) (λ bits. ne (omega (arith, e, word, bits)))
            ∙ sym (ne_eqb k place ne)
        | inr word ↦ ap (λ b. b && (k % 64 == place % 64)) (ne_eqb at (place / 64) word) ∙ sym (ne_eqb k place ne)
      ]
    ]

    go : (at : ℕ) → k / 64 ≡ at → is_set (get_or (p ∷ q ∷ r ∷ s ∷ []) at 0) (k % 64) ≡ (k == place)
    go zero e = first (k % 64) (omega arith) ∙ both 0 e
    go (suc zero) e = second (k % 64) (omega arith) ∙ both 1 e
    go (suc (suc zero)) e = third (k % 64) (omega arith) ∙ both 2 e
    go (suc (suc (suc zero))) e = fourth (k % 64) (omega arith) ∙ both 3 e
    go (suc (suc (suc (suc more)))) e = no_bit (k % 64) ∙ sym (ne_eqb k place (λ same. omega (arith, same, e, small)))

-- ---- the first place

abbrev pub NoneBefore : List ℕ → ℕ → Type 0
NoneBefore xs at = (q : ℕ) → q < at → get_or xs q 0 ≡ 0

small_zeros : (w : ℕ) → w ≢ 0 → w < 2 ^ 64 → trailing_zeros w64 w < 64
small_zeros w other fits =
    let low = bit_at-trailing_zeros w64 w (omega (arith, other)) fits in
    elim (cases_lt (trailing_zeros w64 w) 64) [
      | inl below ↦ below
      | inr above ↦ let none = bit_at_above w 64 (trailing_zeros w64 w) fits above in let one = low.0 in absurd (omega (arith, none, one))
    ]

pub first_at : (xs : List ℕ) (at : ℕ) → at < 4 → get_or xs at 0 ≢ 0 → get_or xs at 0 < 2 ^ 64 → (at * 64 + trailing_zeros w64 (get_or xs at 0) < 256) × (has_place xs (at * 64 + trailing_zeros w64 (get_or xs at 0)) ≡ true)
first_at xs at inside other fits =
    let w = get_or xs at 0 in
    let small = small_zeros w other fits in
    (omega (arith, inside, small), has_at xs at (trailing_zeros w64 w) small ∙ lowest_bit w (omega (arith, other)) fits)

-- no place is before it
pub none_before_first : (xs : List ℕ) (at : ℕ) → NoneBefore xs at → get_or xs at 0 ≢ 0 → get_or xs at 0 < 2 ^ 64 → (k : ℕ) → k < at * 64 + trailing_zeros w64 (get_or xs at 0) → has_place xs k ≡ false
none_before_first xs at before other fits k less =
    let w = get_or xs at 0 in
    let some : 0 < w = omega (arith, other) in
    elim (cases_lt (k / 64) at) [
      | inl below ↦ ap (λ x. is_set x (k % 64)) (before (k / 64) below) ∙ no_bit (k % 64)
      | inr above ↦
          let small = small_zeros w other fits in
          let here : k / 64 ≡ at = omega (arith, above, less, small) in
          let low : k % 64 < trailing_zeros w64 w = omega (arith, here, less) in
          ap (λ q. is_set (get_or xs q 0) (k % 64)) here ∙ ap (λ b. b == 1) ((bit_at-trailing_zeros w64 w some fits).2 (k % 64) low)
    ]

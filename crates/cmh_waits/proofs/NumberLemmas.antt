-- The numbers for which words have a 1.
use Rattle.std.proofs.Common.{inl, inr, ◌≡◌, ℕ, suc, zero, ◌+◌, ◌-◌, ◌*◌, ◌/◌, ◌%◌, ◌<◌, ◌≤◌, Bool, true, false, not, ◌&&◌, ◌||◌, ◌==◌, cond, List, [], ◌∷◌, ◌++◌, length, get_or, set, refl, sym, ap, ◌∙◌, subst, arith, append_assoc, append-nil}
use Rattle.std.specs.List.{filter, range_with_len}
use Rattle.std.specs.List.Sorted.{IsStrictlyIncreasing}
use Rattle.std.proofs.Math.Bool.{and-false, and-true}
use Rattle.std.proofs.lemmas.Bool.{and_parts, eq-eqb, ne_eqb, eqb-true, cases_eq, cases_lt, cases_Bool}
use Rattle.std.proofs.lemmas.List.{get_or-set_same, get_or-set_other, length-set}
use Rattle.std.proofs.lemmas.List.Elements.{filter-append}
use Rattle.std.proofs.lemmas.List.FromFn.{length-range_with_len, get_or-range_with_len}
use Rattle.std.proofs.lemmas.Map.Views.{any-filter_same}
use Rattle.cmh_frames.specs.Number.{IsNumber}
use Rattle.cmh_bits.specs.Bits.{has_number}
use Rattle.cmh_waits.specs.Numbers.{AreNumbers, numbers_in}
use Rattle.cmh_bits.specs.Bits.{is_set}
use Rattle.cmh_waits.specs.Rows.{is_in}
use Rattle.cmh_bits.proofs.BitLemmas.{no_bit}
use Rattle.cmh_bits.proofs.WordLemmas.{none_past}
use Rattle.cmh_waits.proofs.Ordered.{filter_all}
use Rattle.cmh_waits.proofs.RowLemmas.{in_at}

-- ---- what is in the list of the numbers

pub in_numbers : (ws : List ℕ) (q : ℕ) → is_in (numbers_in ws) q ≡ has_number ws q
in_numbers ws q =
    let n = length ws * 64 in
    any-filter_same (λ y. y == q) (has_number ws) (has_number ws q) (λ k h. ap (has_number ws) (eqb-true k q h)) (range_with_len 0 n)
    ∙ elim (cases_lt q n) [
      | inl below ↦
          let long = length-range_with_len 0 n in
          ap (λ b. has_number ws q && b) (in_at (range_with_len 0 n) q q (omega (arith, long, below)) (let is = get_or-range_with_len 0 n q 0 below in omega (arith, is))) ∙ and-true (has_number ws q)
      | inr past ↦
          let none = none_past ws q (omega (arith, past)) in
          ap (λ b. b && is_in (range_with_len 0 n) q) none ∙ sym none
    ]

pub range_increasing : (a n : ℕ) → IsStrictlyIncreasing (range_with_len a n)
range_increasing a n = λ k h.
    let long = length-range_with_len a n in
    let here = get_or-range_with_len a n k 0 (omega (arith, long, h)) in
    let next = get_or-range_with_len a n (k + 1) 0 (omega (arith, long, h)) in
    omega (arith, here, next)

-- ---- one bit of one word changes

or_as : (t b : Bool) → (t || b) ≡ cond t true b
or_as true b = refl
or_as false b = refl

and_as : (t b : Bool) → (not t && b) ≡ cond t false b
and_as true b = refl
and_as false b = refl

module _ (f : Bool → Bool) (ws : List ℕ) (p w u : ℕ) (within : p / 64 < length ws) (was : w ≡ get_or ws (p / 64) 0) (bits : (b : ℕ) → is_set u b ≡ cond (b == p % 64) (f (is_set w b)) (is_set w b)) where
  same_test : (k : ℕ) → k / 64 ≡ p / 64 → (k % 64 == p % 64) ≡ (k == p)
  same_test k e = elim (cases_eq k p) [
    | inl same ↦ eq-eqb (k % 64) (p % 64) (ap (λ n. n % 64) same) ∙ sym (eq-eqb k p same)
    | inr ne ↦ ne_eqb (k % 64) (p % 64) (λ rest. ne (omega (arith, e, rest))) ∙ sym (ne_eqb k p ne)
  ]

  pub changed : (k : ℕ) → has_number (set ws (p / 64) u) k ≡ cond (k == p) (f (has_number ws k)) (has_number ws k)
  changed k = elim (cases_eq (k / 64) (p / 64)) [
    | inl e ↦
        ap (λ i. is_set (get_or (set ws (p / 64) u) i 0) (k % 64)) e ∙ ap (λ x. is_set x (k % 64)) (get_or-set_same ws (p / 64) u 0 within)
        ∙ bits (k % 64)
        ∙ ap (λ x. cond (k % 64 == p % 64) (f (is_set x (k % 64))) (is_set x (k % 64))) (was ∙ ap (λ i. get_or ws i 0) (sym e))
        ∙ ap (λ t. cond t (f (has_number ws k)) (has_number ws k)) (same_test k e)
    | inr ne ↦
        ap (λ x. is_set x (k % 64)) (get_or-set_other ws (p / 64) (k / 64) u 0 ne)
        ∙ sym (ap (λ t. cond t (f (has_number ws k)) (has_number ws k)) (ne_eqb k p (λ e. ne (ap (λ n. n / 64) e))))
  ]

  pub changed_are : IsNumber p → AreNumbers ws → AreNumbers (set ws (p / 64) u)
  changed_are number are = record {
    short = let same = length-set ws (p / 64) u in let few = are.short in omega (arith, same, few);
    numbers = λ k h. elim (cases_eq k p) [
      | inl e ↦ subst IsNumber (sym e) number
      | inr ne ↦ are.numbers k (sym (changed k ∙ ap (λ t. cond t (f (has_number ws k)) (has_number ws k)) (ne_eqb k p ne)) ∙ h)
    ];
  }

-- ---- filters of ranges

pub filter_alike : (f g : ℕ → Bool) (a n : ℕ) → ((k : ℕ) → a ≤ k → k < a + n → f k ≡ g k) → filter f (range_with_len a n) ≡ filter g (range_with_len a n)
filter_alike f g a zero same = refl
filter_alike f g a (suc n) same =
    ap (λ b. cond b (a ∷ filter f (range_with_len (a + 1) n)) (filter f (range_with_len (a + 1) n))) (same a (omega arith) (omega arith))
    ∙ ap (λ xs. cond (g a) (a ∷ xs) xs) (filter_alike f g (a + 1) n (λ k low high. same k (omega (arith, low)) (omega (arith, high))))

-- the least that passes comes first
pub filter_first : (f g : ℕ → Bool) (p a n : ℕ) → a ≤ p → p < a + n → f p ≡ true → ((k : ℕ) → a ≤ k → k < p → f k ≡ false) → ((k : ℕ) → a ≤ k → g k ≡ (not (k == p) && f k)) → filter f (range_with_len a n) ≡ p ∷ filter g (range_with_len a n)
filter_first f g p a zero low high here before less = absurd (omega (arith, low, high))
filter_first f g p a (suc n) low high here before less =
    let fs = filter f (range_with_len (a + 1) n) in
    let gs = filter g (range_with_len (a + 1) n) in
    elim (cases_eq a p) [
      | inl e ↦
          ap (λ b. cond b (a ∷ fs) fs) (ap f e ∙ here)
          ∙ ap (λ x. x ∷ fs) e
          ∙ ap (λ xs. p ∷ xs) (filter_alike f g (a + 1) n (λ k above _. sym (less k (omega (arith, above)) ∙ ap (λ b. not b && f k) (ne_eqb k p (λ same. absurd (omega (arith, same, above, e)))))))
          ∙ sym (ap (λ b. p ∷ cond b (a ∷ gs) gs) (less a (omega arith) ∙ ap (λ b. not b && f a) (eq-eqb a p e)))
      | inr ne ↦
          let none = before a (omega arith) (omega (arith, low, ne)) in
          ap (λ b. cond b (a ∷ fs) fs) none
          ∙ filter_first f g p (a + 1) n (omega (arith, low, ne)) (omega (arith, high)) here (λ k above. before k (omega (arith, above))) (λ k above. less k (omega (arith, above)))
          ∙ sym (ap (λ b. p ∷ cond b (a ∷ gs) gs) (less a (omega arith) ∙ ap (λ b. not b && f a) (ne_eqb a p ne) ∙ none))
    ]

filter_none : (f : ℕ → Bool) (xs : List ℕ) → ((k : ℕ) → f k ≡ false) → filter f xs ≡ []
filter_none f [] none = refl
filter_none f (x ∷ xs) none = ap (λ b. cond b (x ∷ filter f xs) (filter f xs)) (none x) ∙ filter_none f xs none

-- what passes both of two tests
filter_both : (f g : ℕ → Bool) (xs : List ℕ) → filter g (filter f xs) ≡ filter (λ k. g k && f k) xs
filter_both f g [] = refl
filter_both f g (x ∷ xs) = elim (cases_Bool (f x)) [
  | inl passes ↦
      ap (λ b. filter g (cond b (x ∷ filter f xs) (filter f xs))) passes
      ∙ ap (λ ys. cond (g x) (x ∷ ys) ys) (filter_both f g xs)
      ∙ sym (ap (λ b. cond (g x && b) (x ∷ filter (λ k. g k && f k) xs) (filter (λ k. g k && f k) xs)) passes ∙ ap (λ b. cond b (x ∷ filter (λ k. g k && f k) xs) (filter (λ k. g k && f k) xs)) (and-true (g x)))
  | inr fails ↦
      ap (λ b. filter g (cond b (x ∷ filter f xs) (filter f xs))) fails
      ∙ filter_both f g xs
      ∙ sym (ap (λ b. cond (g x && b) (x ∷ filter (λ k. g k && f k) xs) (filter (λ k. g k && f k) xs)) fails ∙ ap (λ b. cond b (x ∷ filter (λ k. g k && f k) xs) (filter (λ k. g k && f k) xs)) (and-false (g x)))
]

range_append : (a m n : ℕ) → range_with_len a (m + n) ≡ range_with_len a m ++ range_with_len (a + m) n
range_append a zero n =
    let e : a ≡ a + 0 = omega arith in
    let none : 0 + n ≡ n = omega arith in
    ap (range_with_len a) none ∙ ap (λ b. range_with_len b n) e
range_append a (suc m) n =
    let e : a + 1 + m ≡ a + suc m = omega arith in
    let next : suc m + n ≡ suc (m + n) = omega arith in
    ap (range_with_len a) next ∙ ap (λ xs. a ∷ xs) (range_append (a + 1) m n ∙ ap (λ b. range_with_len (a + 1) m ++ range_with_len b n) e)

-- ---- a process that is added, turned or taken out

-- the words are longer, and then one bit of them changes
module _ (f : Bool → Bool) (ws longer : List ℕ) (p w u : ℕ) (within : p / 64 < length longer) (was : w ≡ get_or longer (p / 64) 0) (bits : (b : ℕ) → is_set u b ≡ cond (b == p % 64) (f (is_set w b)) (is_set w b)) (same : (k : ℕ) → has_number longer k ≡ has_number ws k) where
  in_changed : (q : ℕ) → is_in (numbers_in (set longer (p / 64) u)) q ≡ cond (q == p) (f (is_in (numbers_in ws) q)) (is_in (numbers_in ws) q)
  in_changed q =
      in_numbers (set longer (p / 64) u) q ∙ changed f longer p w u within was bits q
      ∙ ap (λ b. cond (q == p) (f b) b) (same q ∙ sym (in_numbers ws q))

module _ (ws longer : List ℕ) (p w u x : ℕ) (now : List ℕ) (within : p / 64 < length longer) (was : w ≡ get_or longer (p / 64) 0) (same : (k : ℕ) → has_number longer k ≡ has_number ws k) (is : p ≡ x) (view : numbers_in ws ≡ now) where
  pub added : ((b : ℕ) → is_set u b ≡ ((b == p % 64) || is_set w b)) → (q : ℕ) → is_in (numbers_in (set longer (p / 64) u)) q ≡ ((q == x) || is_in now q)
  added bits q =
      in_changed (λ b. true) ws longer p w u within was (λ b. bits b ∙ or_as (b == p % 64) (is_set w b)) same q
      ∙ sym (or_as (q == p) (is_in (numbers_in ws) q))
      ∙ ap (λ y. (q == y) || is_in (numbers_in ws) q) is ∙ ap (λ xs. (q == x) || is_in xs q) view

  pub turned : ((b : ℕ) → is_set u b ≡ cond (b == p % 64) (not (is_set w b)) (is_set w b)) → (q : ℕ) → is_in (numbers_in (set longer (p / 64) u)) q ≡ cond (q == x) (not (is_in now q)) (is_in now q)
  turned bits q =
      in_changed not ws longer p w u within was bits same q
      ∙ ap (λ y. cond (q == y) (not (is_in (numbers_in ws) q)) (is_in (numbers_in ws) q)) is ∙ ap (λ xs. cond (q == x) (not (is_in xs q)) (is_in xs q)) view

module _ (ws : List ℕ) (p w u : ℕ) (within : p / 64 < length ws) (was : w ≡ get_or ws (p / 64) 0) where
  pub added_are : IsNumber p → AreNumbers ws → ((b : ℕ) → is_set u b ≡ ((b == p % 64) || is_set w b)) → AreNumbers (set ws (p / 64) u)
  added_are number are bits = changed_are (λ b. true) ws p w u within was (λ b. bits b ∙ or_as (b == p % 64) (is_set w b)) number are

  pub taken_are : IsNumber p → AreNumbers ws → ((b : ℕ) → is_set u b ≡ (not (b == p % 64) && is_set w b)) → AreNumbers (set ws (p / 64) u)
  taken_are number are bits = changed_are (λ b. false) ws p w u within was (λ b. bits b ∙ and_as (b == p % 64) (is_set w b)) number are

  pub taken : ((b : ℕ) → is_set u b ≡ (not (b == p % 64) && is_set w b)) → numbers_in (set ws (p / 64) u) ≡ filter (λ q. not (q == p)) (numbers_in ws)
  taken bits =
      let new = set ws (p / 64) u in
      ap (λ n. filter (has_number new) (range_with_len 0 (n * 64))) (length-set ws (p / 64) u)
      ∙ filter_alike (has_number new) (λ k. not (k == p) && has_number ws k) 0 (length ws * 64)
      (λ k _ _. changed (λ b. false) ws p w u within was (λ b. bits b ∙ and_as (b == p % 64) (is_set w b)) k ∙ sym (and_as (k == p) (has_number ws k)))
      ∙ sym (filter_both (has_number ws) (λ k. not (k == p)) (range_with_len 0 (length ws * 64)))

pub not_there : (ws : List ℕ) (p : ℕ) → length ws ≤ p / 64 → numbers_in ws ≡ filter (λ q. not (q == p)) (numbers_in ws)
not_there ws p past = filter_all (λ q. q == p) (numbers_in ws) (in_numbers ws p ∙ none_past ws p past)

-- ---- the processes in a list

-- the numbers of the bits of a word, the first of which stands for the start
abbrev pub numbers_of : ℕ → ℕ → List ℕ
numbers_of start word = filter (λ k. is_set word (k - start)) (range_with_len start 64)

-- all but those of the bits that are left are in the list
pub record IsPushing (start word left : ℕ) (old new : List ℕ) : Type 0 where
  pub part : (p : ℕ) → is_set left p ≡ true → is_set word p ≡ true
  pub listed : new ++ numbers_of start left ≡ old ++ numbers_of start word

pub pushing_more : (start word left less p : ℕ) (old new : List ℕ) → IsPushing start word left old new → p < 64 → is_set left p ≡ true → ((k : ℕ) → is_set left k ≡ true → p ≤ k) → ((k : ℕ) → is_set less k ≡ (not (k == p) && is_set left k))
    → IsPushing start word less old (new ++ (start + p) ∷ [])
pushing_more start word left less p old new is small at least bits = record {
  part = λ q h. is.part q (and_parts (not (q == p)) (is_set left q) (sym (bits q) ∙ h)).1;
  listed =
      append_assoc new ((start + p) ∷ []) (numbers_of start less)
      ∙ ap (λ xs. new ++ xs) (sym (filter_first (λ k. is_set left (k - start)) (λ k. is_set less (k - start)) (start + p) start 64 (omega arith) (omega (arith, small)) here before rest))
      ∙ is.listed;
}
  where
    here : is_set left (start + p - start) ≡ true
    here = let e : start + p - start ≡ p = omega arith in ap (is_set left) e ∙ at

    before : (k : ℕ) → start ≤ k → k < start + p → is_set left (k - start) ≡ false
    before k low high = elim (cases_Bool (is_set left (k - start))) [
      | inl set ↦ let above = least (k - start) set in absurd (omega (arith, above, low, high))
      | inr none ↦ none
    ]

    rest : (k : ℕ) → start ≤ k → is_set less (k - start) ≡ (not (k == start + p) && is_set left (k - start))
    rest k low = bits (k - start) ∙ ap (λ b. not b && is_set left (k - start)) (elim (cases_eq k (start + p)) [
      | inl e ↦ eq-eqb (k - start) p (omega (arith, e)) ∙ sym (eq-eqb k (start + p) e)
      | inr ne ↦ ne_eqb (k - start) p (λ e. ne (omega (arith, e, low))) ∙ sym (ne_eqb k (start + p) ne)
    ])

pub pushing_end : (start word left : ℕ) (old new : List ℕ) → left ≡ 0 → IsPushing start word left old new → new ≡ old ++ numbers_of start word
pushing_end start word left old new none is =
    sym (append-nil new)
    ∙ ap (λ xs. new ++ xs) (sym (filter_none (λ k. is_set left (k - start)) (range_with_len start 64) (λ k. ap (λ n. is_set n (k - start)) none ∙ no_bit (k - start))))
    ∙ is.listed

-- word by word
module _ (ws : List ℕ) (at w : ℕ) (word : w ≡ get_or ws at 0) where
  pub has_at : (p : ℕ) → p < 64 → has_number ws (at * 64 + p) ≡ is_set w p
  has_at p small =
      let place : (at * 64 + p) / 64 ≡ at = omega (arith, small) in
      let bit : (at * 64 + p) % 64 ≡ p = omega (arith, small) in
      ap (λ i. is_set (get_or ws i 0) ((at * 64 + p) % 64)) place ∙ ap (λ x. is_set x ((at * 64 + p) % 64)) (sym word) ∙ ap (is_set w) bit

  pub word_more : (old new : List ℕ) → old ≡ filter (has_number ws) (range_with_len 0 (at * 64)) → new ≡ old ++ numbers_of (at * 64) w → new ≡ filter (has_number ws) (range_with_len 0 ((at + 1) * 64))
  word_more old new so_far next =
      let more : (at + 1) * 64 ≡ at * 64 + 64 = omega arith in
      let first : 0 + at * 64 ≡ at * 64 = omega arith in
      next ∙ ap (λ xs. xs ++ numbers_of (at * 64) w) so_far
      ∙ sym (ap (λ n. filter (has_number ws) (range_with_len 0 n)) more
      ∙ ap (filter (has_number ws)) (range_append 0 (at * 64) 64)
      ∙ filter-append (has_number ws) (range_with_len 0 (at * 64)) (range_with_len (0 + at * 64) 64)
      ∙ ap (λ s. filter (has_number ws) (range_with_len 0 (at * 64)) ++ filter (has_number ws) (range_with_len s 64)) first
      ∙ ap (λ xs. filter (has_number ws) (range_with_len 0 (at * 64)) ++ xs) (filter_alike (has_number ws) (λ k. is_set w (k - at * 64)) (at * 64) 64
      (λ k low high.
      let e : at * 64 + (k - at * 64) ≡ k = omega (arith, low) in
      ap (has_number ws) (sym e) ∙ has_at (k - at * 64) (omega (arith, low, high)))))

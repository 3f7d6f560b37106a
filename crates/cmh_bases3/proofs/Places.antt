-- The rows of a base of a state are in order, and not too many.
use Rattle.std.proofs.Common.{◌≡◌, ℕ, zero, suc, ◌+◌, ◌*◌, ◌<◌, ◌≤◌, Bool, true, false, cond, List, [], ◌∷◌, ◌++◌, length, map, refl, sym, ap, ◌∙◌, subst, arith, length-append}
use Rattle.std.specs.List.{AllByRecursion, filter, flat_map}
use Rattle.std.proofs.lemmas.List.{length-map, map-append}
use Rattle.byteorder.specs.Endian.{big_bytes}
use Rattle.cmh_model3.specs.Lists.{IsAscending}
use Rattle.cmh_segment3.specs.Rows.{rows_spelling}
use Rattle.cmh_segment3.specs.States.{all_numbers, count_from}
use Rattle.cmh_bases3.proofs.Numbers.{all_in, filter_ascends, in_number, numbers_ascend}

-- ---- lists

all_append : (P : ℕ → Type 0) (xs ys : List ℕ) → AllByRecursion P xs → AllByRecursion P ys → AllByRecursion P (xs ++ ys)
all_append P [] ys all more = more
all_append P (x ∷ xs) ys all more = (all.0, all_append P xs ys all.1 more)

weaker : (P Q : ℕ → Type 0) → ((x : ℕ) → P x → Q x) → (xs : List ℕ) → AllByRecursion P xs → AllByRecursion Q xs
weaker P Q f [] all = tt
weaker P Q f (x ∷ xs) all = (f x all.0, weaker P Q f xs all.1)

append_ascends : (xs ys : List ℕ) (m : ℕ) → IsAscending xs → IsAscending ys → AllByRecursion (λ x. x < m) xs → AllByRecursion (λ y. m ≤ y) ys → IsAscending (xs ++ ys)
append_ascends [] ys m up vs below above = vs
append_ascends (x ∷ xs) ys m up vs below above =
    let low : x < m = below.0 in
    (all_append (λ y. x < y) xs ys up.0 (weaker (λ y. m ≤ y) (λ y. x < y) (λ y h. omega (arith, low, h)) ys above), append_ascends xs ys m up.1 vs below.1 above)

-- ---- places of pairs

-- where a pair stands in the order of the first, and then of the second
abbrev place : ℕ → ℕ → ℕ
place a b = a * 65536 + b

places : (ℕ → List ℕ) → List ℕ → List ℕ
places seconds firsts = flat_map (λ a. map (place a) (seconds a)) firsts

shifted : (a k : ℕ) (ks : List ℕ) → AllByRecursion (λ y. k < y) ks → AllByRecursion (λ y. place a k < y) (map (place a) ks)
shifted a k [] all = tt
shifted a k (q ∷ qs) all = (let h : k < q = all.0 in omega (arith, h), shifted a k qs all.1)

first_ascends : (a : ℕ) (ks : List ℕ) → IsAscending ks → IsAscending (map (place a) ks)
first_ascends a [] up = tt
first_ascends a (k ∷ ks) up = (shifted a k ks up.0, first_ascends a ks up.1)

first_below : (a m : ℕ) (ks : List ℕ) → m ≡ (a + 1) * 65536 → AllByRecursion (λ k. k < 65536) ks → AllByRecursion (λ y. y < m) (map (place a) ks)
first_below a m [] e small = tt
first_below a m (k ∷ ks) e small = (let h : k < 65536 = small.0 in omega (arith, e, h), first_below a m ks e small.1)

at_or_above : (a b m : ℕ) (ks : List ℕ) → m ≡ b * 65536 → b ≤ a → AllByRecursion (λ y. m ≤ y) (map (place a) ks)
at_or_above a b m [] e le = tt
at_or_above a b m (k ∷ ks) e le = (omega (arith, e, le), at_or_above a b m ks e le)

module _ (seconds : ℕ → List ℕ) where
  rest_above : (b m : ℕ) (firsts : List ℕ) → m ≡ b * 65536 → AllByRecursion (λ a. b ≤ a) firsts → AllByRecursion (λ y. m ≤ y) (places seconds firsts)
  unfolding places
  rest_above b m [] e above = tt
  rest_above b m (a ∷ firsts) e above =
      all_append (λ y. m ≤ y) (map (place a) (seconds a)) (flat_map (λ a. map (place a) (seconds a)) firsts) (at_or_above a b m (seconds a) e above.0) (rest_above b m firsts e above.1)

  places_ascend : (firsts : List ℕ) → IsAscending firsts → ((a : ℕ) → IsAscending (seconds a)) → ((a : ℕ) → AllByRecursion (λ k. k < 65536) (seconds a)) → IsAscending (places seconds firsts)
  unfolding places
  places_ascend [] up each small = tt
  places_ascend (x ∷ xs) up each small =
      append_ascends (map (place x) (seconds x)) (flat_map (λ a. map (place a) (seconds a)) xs) ((x + 1) * 65536)
      (first_ascends x (seconds x) (each x)) (places_ascend xs up.1 each small) (first_below x ((x + 1) * 65536) (seconds x) refl (small x))
      (rest_above (x + 1) ((x + 1) * 65536) xs refl (weaker (λ y. x < y) (λ y. x + 1 ≤ y) (λ y h. omega (arith, h)) xs up.0))

  module _ {X : Type 0} (at : X → ℕ) (row : ℕ → ℕ → X) (is : (a b : ℕ) → at (row a b) ≡ place a b) where
    one_first : (a : ℕ) (ks : List ℕ) → map at (map (row a) ks) ≡ map (place a) ks
    one_first a [] = refl
    one_first a (k ∷ ks) = λ i. is a k i ∷ one_first a ks i

    at_places : (firsts : List ℕ) → map at (flat_map (λ a. map (row a) (seconds a)) firsts) ≡ places seconds firsts
    unfolding places
    at_places [] = refl
    at_places (x ∷ xs) = map-append at (map (row x) (seconds x)) (flat_map (λ a. map (row a) (seconds a)) xs) ∙ (λ i. one_first x (seconds x) i ++ at_places xs i)

    -- rows of pairs are in order
    pub pairs_ascend : (firsts : List ℕ) → IsAscending firsts → ((a : ℕ) → IsAscending (seconds a)) → ((a : ℕ) → AllByRecursion (λ k. k < 65536) (seconds a))
        → IsAscending (map at (flat_map (λ a. map (row a) (seconds a)) firsts))
    pairs_ascend firsts up each small = subst IsAscending (sym (at_places firsts)) (places_ascend firsts up each small)

  -- and no more than so many for each first number
  pub few_pairs : {X : Type 0} (row : ℕ → ℕ → X) (firsts : List ℕ) → ((a : ℕ) → length (seconds a) ≤ 9999) → length (flat_map (λ a. map (row a) (seconds a)) firsts) ≤ 9999 * length firsts
  few_pairs row [] few = omega arith
  few_pairs row (x ∷ xs) few =
      let later = few_pairs row xs few in
      let here = few x in
      let both = length-append (map (row x) (seconds x)) (flat_map (λ a. map (row a) (seconds a)) xs) in
      let same = length-map (seconds x) (row x) in
      omega (arith, later, here, both, same)

-- ---- all numbers

length_count : (a n : ℕ) → length (count_from a n) ≡ n
length_count a zero = refl
length_count a (suc n) = ap suc (length_count (a + 1) n)

pub so_many_numbers : length all_numbers ≡ 9999
unfolding all_numbers
so_many_numbers = length_count 1 9999

few_filtered : (p : ℕ → Bool) (xs : List ℕ) → length (filter p xs) ≤ length xs
few_filtered p [] = omega arith
few_filtered p (x ∷ xs) = let later = few_filtered p xs in go (p x) later
  where
    go : (z : Bool) → length (filter p xs) ≤ length xs → length (cond z (x ∷ filter p xs) (filter p xs)) ≤ suc (length xs)
    go true later = omega (arith, later)
    go false later = omega (arith, later)

pub few_numbers : (p : ℕ → Bool) → length (filter p all_numbers) ≤ 9999
few_numbers p = let few = few_filtered p all_numbers in let all = so_many_numbers in omega (arith, few, all)

filter_small : (p : ℕ → Bool) (xs : List ℕ) → AllByRecursion (λ k. k < 65536) xs → AllByRecursion (λ k. k < 65536) (filter p xs)
filter_small p [] all = tt
filter_small p (x ∷ xs) all = go (p x) (filter_small p xs all.1)
  where
    go : (z : Bool) → AllByRecursion (λ k. k < 65536) (filter p xs) → AllByRecursion (λ k. k < 65536) (cond z (x ∷ filter p xs) (filter p xs))
    go true later = (all.0, later)
    go false later = later

pub small_numbers : (p : ℕ → Bool) → AllByRecursion (λ k. k < 65536) (filter p all_numbers)
small_numbers p = filter_small p all_numbers (all_in (λ k. k < 65536) all_numbers (λ k there. let high = (in_number k there).most in omega (arith, high)))

pub some_ascend : (p : ℕ → Bool) → IsAscending (filter p all_numbers)
some_ascend p = filter_ascends p all_numbers numbers_ascend

-- ---- bytes

pub flat_length : {X : Type 0} (spelled : X → List ℕ) (k : ℕ) → ((x : X) → length (spelled x) ≡ k) → (xs : List X) → length (flat_map spelled xs) ≡ k * length xs
flat_length spelled k is [] = omega arith
flat_length spelled k is (x ∷ xs) =
    let later = flat_length spelled k is xs in
    let here = is x in
    let both = length-append (spelled x) (flat_map spelled xs) in
    omega (arith, later, here, both)

pub rows_length : {X : Type 0} (spelled : X → List ℕ) (k : ℕ) → ((x : X) → length (spelled x) ≡ k) → (xs : List X) → length (rows_spelling spelled xs) ≡ 4 + k * length xs
rows_length spelled k is xs =
    let both = length-append (big_bytes 4 (length xs)) (flat_map spelled xs) in
    let flat = flat_length spelled k is xs in
    omega (arith, both, flat)

-- The marks of a process.
use Rattle.std.proofs.Common.{◌≡◌, ℕ, zero, suc, ◌<◌, ◌≤◌, ◌==◌, false, if◌then◌else◌, List, [], ◌∷◌, ◌++◌, length, get_or, take, drop, Result, Ok, Err, IfOk, IfErr, refl, sym, ap, ◌∙◌, subst, inl, inr, arith}
use Rattle.std.specs.List.{AllByRecursion, insert}
use Rattle.std.specs.List.Sorted.{IsBinarySearchResult, IsNonDecreasingBy, IsSearchInRange}
use Rattle.std.specs.Ordering.{nat_cmp, ordering_index}
use Rattle.std.proofs.Math.ListN.{set}
use Rattle.std.proofs.lemmas.Bool.{cases_eq, eq-eqb, ne_eqb}
use Rattle.std.proofs.lemmas.Bool.Decides.{nat_tests}
use Rattle.std.proofs.lemmas.Cmp.{ranked}
use Rattle.std.proofs.lemmas.List.{take-append-drop}
use Rattle.cmh_model3.specs.Lists.{IsAscending}
use Rattle.cmh_controller3.specs.declared.mark_row.Mark.{Mark}
use Rattle.cmh_controller3.specs.Inner.Marks.{IsPlaceFor, origins_of}
use Rattle.cmh_controller3.specs.Tables.{stamp_in}

-- ---- where a binary search ends

abbrev no_mark : Mark
no_mark = record { origin = 0; stamp = 0 }

abbrev origin_at : List Mark → ℕ → Mark → ℕ
origin_at ms i d = (get_or ms i d).origin

above_at : (x : ℕ) (ms : List Mark) (i : ℕ) (d : Mark) → AllByRecursion (λ k. x < k) (origins_of ms) → i < length ms → x < origin_at ms i d
above_at x [] i d above inside = absurd (omega (arith, inside))
above_at x (m ∷ ms) zero d above inside = above.0
above_at x (m ∷ ms) (suc i) d above inside = above_at x ms i d above.1 (omega (arith, inside))

rising : (ms : List Mark) (i j : ℕ) (d : Mark) → IsAscending (origins_of ms) → i < j → j < length ms → origin_at ms i d < origin_at ms j d
rising [] i j d up less inside = absurd (omega (arith, inside))
rising (m ∷ ms) i zero d up less inside = absurd (omega (arith, less))
rising (m ∷ ms) zero (suc j) d up less inside = above_at m.origin ms j d up.0 (omega (arith, inside))
rising (m ∷ ms) (suc i) (suc j) d up less inside = rising ms i j d up.1 (omega (arith, less)) (omega (arith, inside))

all_before : (t : ℕ) (ms : List Mark) (i : ℕ) → i ≤ length ms → ((j : ℕ) → j < i → origin_at ms j no_mark < t) → AllByRecursion (λ k. k < t) (origins_of (take i ms))
all_before t ms zero within each = tt
all_before t [] (suc i) within each = absurd (omega (arith, within))
all_before t (m ∷ ms) (suc i) within each = (each 0 (omega arith), all_before t ms i (omega (arith, within)) (λ j l. each (suc j) (omega (arith, l))))

all_after : (t : ℕ) (ms : List Mark) (i : ℕ) → i ≤ length ms → ((j : ℕ) → i ≤ j → j < length ms → t < origin_at ms j no_mark) → AllByRecursion (λ k. t < k) (origins_of (drop i ms))
all_after t [] zero within each = tt
all_after t [] (suc i) within each = absurd (omega (arith, within))
all_after t (m ∷ ms) zero within each = (each 0 (omega arith) (omega arith), all_after t ms zero (omega arith) (λ j low l. each (suc j) (omega arith) (omega (arith, l))))
all_after t (m ∷ ms) (suc i) within each = all_after t ms i (omega (arith, within)) (λ j low l. each (suc j) (omega (arith, low)) (omega (arith, l)))

origins_at : (ms : List Mark) (i : ℕ) → i < length ms → get_or (origins_of ms) i 0 ≡ origin_at ms i no_mark
origins_at [] i inside = absurd (omega (arith, inside))
origins_at (m ∷ ms) zero inside = refl
origins_at (m ∷ ms) (suc i) inside = origins_at ms i (omega (arith, inside))

-- a place of the origin, or the place where it would stand
pub record IsSearched (ms : List Mark) (t : ℕ) (r : Result ℕ ℕ) : Type 0 where
  pub at : IfOk r (λ i. (i < length ms) × (get_or (origins_of ms) i 0 ≡ t))
  pub before : IfErr r (λ i. (i ≤ length ms) × IsPlaceFor t i ms)

module _ (ms : List Mark) (up : IsAscending (origins_of ms)) (t : ℕ) where
  rises : IsNonDecreasingBy (λ m. ordering_index (nat_cmp m.origin t)) ms
  rises i j d le inside =
      let keys_rise : origin_at ms i d ≤ origin_at ms j d = elim (cases_eq i j) [
        | inl e ↦ let same = ap (λ k. origin_at ms k d) e in omega (arith, same)
        | inr n ↦ let less = rising ms i j d up (omega (arith, n, le)) inside in omega (arith, less)
      ] in
      grind (arith, nat_tests)

  pub searched : (r : Result ℕ ℕ) → IsSearchInRange r (length ms) → IsBinarySearchResult (λ m. nat_cmp m.origin t) ms r → IsSearched ms t r
  searched (Ok i) within equal = record { at = (within, origins_at ms i within ∙ ranked _ t _ (sym (equal no_mark))); before = tt }
  searched (Err i) within parted = record {
    at = tt;
    before = (
      within,
      record {
        below = all_before t ms i within (λ j l. ranked _ t _ (sym ((parted rises).0 j no_mark (omega arith) l)));
        above = all_after t ms i within (λ j low l. ranked _ t _ (sym ((parted rises).1 j no_mark low l)));
      },
    );
  }

-- ---- what stands there

-- what is not the first
first_other : (x : ℕ) (ms : List Mark) (i t : ℕ) → AllByRecursion (λ k. x < k) (origins_of ms) → i < length ms → get_or (origins_of ms) i 0 ≡ t → (x == t) ≡ false
first_other x ms i t above inside is =
    let low = above_at x ms i no_mark above inside in
    let same = origins_at ms i inside in
    ne_eqb x t (λ e. absurd (omega (arith, low, same, is, e)))

pub found : (ms : List Mark) (i t : ℕ) (d : Mark) → IsAscending (origins_of ms) → i < length ms → get_or (origins_of ms) i 0 ≡ t → stamp_in ms t ≡ (get_or ms i d).stamp
found [] i t d up inside is = absurd (omega (arith, inside))
found (m ∷ ms) zero t d up inside is = ap (λ b. if b then m.stamp else stamp_in ms t) (eq-eqb m.origin t is)
found (m ∷ ms) (suc i) t d up inside is =
    let within : i < length ms = omega (arith, inside) in
    ap (λ b. if b then m.stamp else stamp_in ms t) (first_other m.origin ms i t up.0 within is) ∙ found ms i t d up.1 within is

pub not_found : (ms : List Mark) (i t : ℕ) → IsPlaceFor t i ms → stamp_in ms t ≡ 0
not_found ms i t place = go ms i place.below place.above
  where
    all_above : (ms : List Mark) → AllByRecursion (λ k. t < k) (origins_of ms) → stamp_in ms t ≡ 0
    all_above [] above = refl
    all_above (m ∷ ms) above =
        let low = above.0 in
        ap (λ b. if b then m.stamp else stamp_in ms t) (ne_eqb m.origin t (λ e. absurd (omega (arith, e, low)))) ∙ all_above ms above.1

    go : (ms : List Mark) (i : ℕ) → AllByRecursion (λ k. k < t) (origins_of (take i ms)) → AllByRecursion (λ k. t < k) (origins_of (drop i ms)) → stamp_in ms t ≡ 0
    go [] i below above = refl
    go (m ∷ ms) zero below above = all_above (m ∷ ms) above
    go (m ∷ ms) (suc i) below above =
        let low = below.0 in
        ap (λ b. if b then m.stamp else stamp_in ms t) (ne_eqb m.origin t (λ e. absurd (omega (arith, e, low)))) ∙ go ms i below.1 above

-- ---- a mark that is put

-- the marks are as before, but for that of the origin
pub record IsMarked (t s : ℕ) (old new : List Mark) : Type 0 where
  pub ascending : IsAscending (origins_of new)
  pub stamps : (q : ℕ) → stamp_in new q ≡ if q == t then s else stamp_in old q

module _ (t s : ℕ) where
  abbrev one : Mark
  one = record { origin = t; stamp = s }

  -- a first one
  first_is : (ms old : List Mark) (q : ℕ) → ((q == t) ≡ false → stamp_in ms q ≡ stamp_in old q) → stamp_in (one ∷ ms) q ≡ if q == t then s else stamp_in old q
  first_is ms old q same = elim (cases_eq t q) [
    | inl e ↦ ap (λ b. if b then s else stamp_in ms q) (eq-eqb t q e) ∙ sym (ap (λ b. if b then s else stamp_in old q) (eq-eqb q t (sym e)))
    | inr n ↦
        let other = ne_eqb q t (λ e. n (sym e)) in
        ap (λ b. if b then s else stamp_in ms q) (ne_eqb t q n) ∙ same other ∙ sym (ap (λ b. if b then s else stamp_in old q) other)
  ]

  -- a first one of another origin
  first_other_is : (m : Mark) (new old : List Mark) (q : ℕ) → (m.origin == t) ≡ false → stamp_in new q ≡ (if q == t then s else stamp_in old q)
      → stamp_in (m ∷ new) q ≡ if q == t then s else stamp_in (m ∷ old) q
  first_other_is m new old q other more = elim (cases_eq m.origin q) [
    | inl e ↦
        ap (λ b. if b then m.stamp else stamp_in new q) (eq-eqb m.origin q e)
        ∙ sym (ap (λ b. if b then s else stamp_in (m ∷ old) q) (ap (λ x. x == t) (sym e) ∙ other) ∙ ap (λ b. if b then m.stamp else stamp_in old q) (eq-eqb m.origin q e))
    | inr n ↦
        ap (λ b. if b then m.stamp else stamp_in new q) (ne_eqb m.origin q n) ∙ more
        ∙ sym (ap (λ z. if q == t then s else z) (ap (λ b. if b then m.stamp else stamp_in old q) (ne_eqb m.origin q n)))
  ]

  -- in the place of that of the origin
  origins_set : (ms : List Mark) (i : ℕ) → i < length ms → get_or (origins_of ms) i 0 ≡ t → origins_of (set ms i one) ≡ origins_of ms
  origins_set [] i inside is = absurd (omega (arith, inside))
  origins_set (m ∷ ms) zero inside is = ap (λ x. x ∷ origins_of ms) (sym is)
  origins_set (m ∷ ms) (suc i) inside is = ap (λ xs. m.origin ∷ xs) (origins_set ms i (omega (arith, inside)) is)

  stamps_set : (ms : List Mark) (i q : ℕ) → IsAscending (origins_of ms) → i < length ms → get_or (origins_of ms) i 0 ≡ t → stamp_in (set ms i one) q ≡ if q == t then s else stamp_in ms q
  stamps_set [] i q up inside is = absurd (omega (arith, inside))
  stamps_set (m ∷ ms) zero q up inside is =
      first_is ms (m ∷ ms) q (λ other. sym (ap (λ b. if b then m.stamp else stamp_in ms q) (ap (λ x. x == q) is ∙ turned q other)))
    where
      turned : (q : ℕ) → (q == t) ≡ false → (t == q) ≡ false
      turned q other = elim (cases_eq t q) [
        | inl e ↦ ap (λ x. x == q) e ∙ ap (λ x. q == x) (sym e) ∙ other
        | inr n ↦ ne_eqb t q n
      ]
  stamps_set (m ∷ ms) (suc i) q up inside is =
      let within : i < length ms = omega (arith, inside) in
      first_other_is m (set ms i one) ms q (first_other m.origin ms i t up.0 within is) (stamps_set ms i q up.1 within is)

  pub set_at_place : (ms : List Mark) (i : ℕ) → IsAscending (origins_of ms) → i < length ms → get_or (origins_of ms) i 0 ≡ t → IsMarked t s ms (set ms i one)
  set_at_place ms i up inside is = record {
    ascending = subst (λ (xs : List ℕ). IsAscending xs) (sym (origins_set ms i inside is)) up;
    stamps = λ q. stamps_set ms i q up inside is;
  }

  -- at its place
  all_put : (x : ℕ) (xs ys : List Mark) → x < t → AllByRecursion (λ k. x < k) (origins_of (xs ++ ys)) → AllByRecursion (λ k. x < k) (origins_of (xs ++ one ∷ ys))
  all_put x [] ys low h = (low, h)
  all_put x (m ∷ xs) ys low h = (h.0, all_put x xs ys low h.1)

  put_ascends : (xs ys : List Mark) → IsAscending (origins_of (xs ++ ys)) → AllByRecursion (λ k. k < t) (origins_of xs) → AllByRecursion (λ k. t < k) (origins_of ys) → IsAscending (origins_of (xs ++ one ∷ ys))
  put_ascends [] ys up below above = (above, up)
  put_ascends (x ∷ xs) ys up below above = (all_put x.origin xs ys below.0 up.0, put_ascends xs ys up.1 below.1 above)

  put_stamps : (xs ys : List Mark) → AllByRecursion (λ k. k < t) (origins_of xs) → (q : ℕ) → stamp_in (xs ++ one ∷ ys) q ≡ if q == t then s else stamp_in (xs ++ ys) q
  put_stamps [] ys below q = first_is ys ys q (λ other. refl)
  put_stamps (x ∷ xs) ys below q =
      let low = below.0 in
      first_other_is x (xs ++ one ∷ ys) (xs ++ ys) q (ne_eqb x.origin t (λ e. absurd (omega (arith, e, low)))) (put_stamps xs ys below.1 q)

  pub insert_at_place : (ms : List Mark) (i : ℕ) → IsAscending (origins_of ms) → IsPlaceFor t i ms → IsMarked t s ms (insert ms i one)
  insert_at_place ms i up place =
      let whole = take-append-drop i ms in
      subst (λ (old : List Mark). IsMarked t s old (take i ms ++ one ∷ drop i ms)) whole (record {
        ascending = put_ascends (take i ms) (drop i ms) (subst (λ (xs : List Mark). IsAscending (origins_of xs)) (sym whole) up) place.below place.above;
        stamps = put_stamps (take i ms) (drop i ms) place.below;
      })

-- where it has no mark, none is put back
pub none_back : (ms : List Mark) (i t s : ℕ) → IsPlaceFor t i ms → (stamp_in ms t ≡ 0 → s ≡ 0) → (q : ℕ) → stamp_in ms q ≡ if q == t then s else stamp_in ms q
none_back ms i t s place some q = elim (cases_eq q t) [
  | inl e ↦ let none = not_found ms i t place in ap (stamp_in ms) e ∙ none ∙ sym (some none) ∙ sym (ap (λ b. if b then s else stamp_in ms q) (eq-eqb q t e))
  | inr n ↦ sym (ap (λ b. if b then s else stamp_in ms q) (ne_eqb q t n))
]

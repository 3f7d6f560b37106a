-- A binary search for a row of two processes.
use Rattle.std.proofs.Common.{◌≡◌, ◌≢◌, ℕ, zero, suc, ◌+◌, ◌*◌, ◌<◌, ◌≤◌, ◌==◌, true, false, ◌&&◌, ◌||◌, List, [], ◌∷◌, length, map, get_or, Result, Ok, Err, refl, sym, ap, ◌∙◌, inl, inr, arith}
use Rattle.std.specs.List.{AllByRecursion}
use Rattle.std.specs.List.Sorted.{IsBinarySearchResult, IsNonDecreasingBy, IsSearchInRange}
use Rattle.std.specs.Ordering.{nat_cmp, ordering_index}
use Rattle.std.specs.Result.{is_ok}
use Rattle.std.proofs.lemmas.Bool.{and_parts, cases_eq, cases_lt, eq-eqb, eqb-true, false_from_ne_true}
use Rattle.std.proofs.lemmas.Bool.Decides.{nat_tests}
use Rattle.std.proofs.lemmas.Cmp.{ranked}
use Rattle.std.proofs.lemmas.List.Folds.{list_any_at}
use Rattle.cmh_model3.specs.Lists.{IsAscending}
use Rattle.cmh_segment3.specs.Base.{IsPairRow, pair_place}
use Rattle.cmh_segment3.specs.Rows.{AreRows}
use Rattle.cmh_segment3.specs.States.{has_pair}
use Rattle.cmh_segment3.specs.declared.rows.Pair.{Pair}

abbrev no_row : Pair
no_row = record { first = 0; second = 0 }

above_at : (x : ℕ) (rows : List Pair) (i : ℕ) (d : Pair) → AllByRecursion (λ k. x < k) (map pair_place rows) → i < length rows → x < pair_place (get_or rows i d)
above_at x [] i d above inside = absurd (omega (arith, inside))
above_at x (r ∷ rows) zero d above inside = above.0
above_at x (r ∷ rows) (suc i) d above inside = above_at x rows i d above.1 (omega (arith, inside))

rising : (rows : List Pair) (i j : ℕ) (d : Pair) → IsAscending (map pair_place rows) → i < j → j < length rows → pair_place (get_or rows i d) < pair_place (get_or rows j d)
rising [] i j d up less inside = absurd (omega (arith, inside))
rising (r ∷ rows) i zero d up less inside = absurd (omega (arith, less))
rising (r ∷ rows) zero (suc j) d up less inside = above_at (pair_place r) rows j d up.0 (omega (arith, inside))
rising (r ∷ rows) (suc i) (suc j) d up less inside = rising rows i j d up.1 (omega (arith, less)) (omega (arith, inside))

row_at : (rows : List Pair) (i : ℕ) → AllByRecursion IsPairRow rows → i < length rows → IsPairRow (get_or rows i no_row)
row_at [] i all inside = absurd (omega (arith, inside))
row_at (r ∷ rows) zero all inside = all.0
row_at (r ∷ rows) (suc i) all inside = row_at rows i all.1 (omega (arith, inside))

module _ (k j : ℕ) where
  abbrev place : ℕ
  place = k * 65536 + j

  at_place : (r : Pair) → ((r.first == k) && (r.second == j)) ≡ true → pair_place r ≡ place
  at_place r h =
      let parts = and_parts (r.first == k) (r.second == j) h in
      let e = eqb-true r.first k parts.0 in
      let f = eqb-true r.second j parts.1 in
      omega (arith, e, f)

  -- where no row stands at their place, none is theirs
  none_there : (rows : List Pair) → ((i : ℕ) → i < length rows → pair_place (get_or rows i no_row) ≢ place) → has_pair rows k j ≡ false
  none_there [] other = refl
  none_there (r ∷ rows) other =
      ap (λ z. z || has_pair rows k j) (false_from_ne_true ((r.first == k) && (r.second == j)) (λ h. other 0 (omega arith) (at_place r h)))
      ∙ none_there rows (λ i inside. other (suc i) (omega (arith, inside)))

  -- a row of two numbers stands at their place alone
  there : (r : Pair) → r.second < 65536 → j < 65536 → pair_place r ≡ place → ((r.first == k) && (r.second == j)) ≡ true
  there r small few same =
      let firsts : r.first ≡ k = omega (arith, small, few, same) in
      let seconds : r.second ≡ j = omega (arith, small, few, same) in
      ap (λ z. z && (r.second == j)) (eq-eqb r.first k firsts) ∙ eq-eqb r.second j seconds

  module _ (rows : List Pair) (are : AreRows IsPairRow pair_place rows) (t : ℕ) (is : t ≡ place) (few : j < 65536) where
    rises : IsNonDecreasingBy (λ r. ordering_index (nat_cmp (pair_place r) t)) rows
    rises i q d le inside =
        let keys_rise : pair_place (get_or rows i d) ≤ pair_place (get_or rows q d) = elim (cases_eq i q) [
          | inl e ↦ let same = ap (λ n. pair_place (get_or rows n d)) e in omega (arith, same)
          | inr n ↦ let less = rising rows i q d are.ascending (omega (arith, n, le)) inside in omega (arith, less)
        ] in
        grind (arith, nat_tests)

    pub found : (r : Result ℕ ℕ) → IsSearchInRange r (length rows) → IsBinarySearchResult (λ r. nat_cmp (pair_place r) t) rows r → is_ok r ≡ has_pair rows k j
    found (Ok i) within equal =
        let here : pair_place (get_or rows i no_row) ≡ t = ranked _ t _ (sym (equal no_row)) in
        let most = (row_at rows i are.each within).1.most in
        sym (list_any_at (λ (row : Pair). (row.first == k) && (row.second == j)) rows i no_row within (there (get_or rows i no_row) (omega (arith, most)) few (here ∙ is)))
    found (Err i) within parted = sym (none_there rows (λ q inside same. elim (cases_lt q i) [
      | inl before ↦ let less : pair_place (get_or rows q no_row) < t = ranked _ t _ (sym ((parted rises).0 q no_row (omega arith) before)) in absurd (omega (arith, less, same, is))
      | inr past ↦ let more : t < pair_place (get_or rows q no_row) = ranked _ t _ (sym ((parted rises).1 q no_row past inside)) in absurd (omega (arith, more, same, is))
    ]))

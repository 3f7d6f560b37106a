-- The base of a controller can be written.
use Rattle.std.proofs.Common.{◌≡◌, ℕ, ◌+◌, ◌*◌, ◌^◌, ◌<◌, ◌≤◌, not, Bool, ◌==◌, List, [], ◌∷◌, ◌++◌, length, map, refl, sym, ap, subst, arith, length-append}
use Rattle.std.specs.List.{AllByRecursion, filter}
use Rattle.std.proofs.lemmas.List.{length-map}
use Rattle.cmh_controller3.specs.Controller.{Controller, state_of}
use Rattle.cmh_controller3.specs.Readings.{HasFacts}
use Rattle.cmh_model3.specs.Lists.{IsAscending}
use Rattle.cmh_segment3.specs.Base.{IsBase, IsPairRow, IsStampedPairRow, IsStampedRow, base_spelling, link_row, pair_place, pair_row, stamped_pair_place, stamped_pair_row, stamped_place, stamped_row}
use Rattle.cmh_segment3.specs.Rows.{AreRows, rows_spelling}
use Rattle.cmh_segment3.specs.States.{all_numbers, base_of, pairs_where, stamped_pairs, stamped_where}
use Rattle.cmh_segment3.specs.declared.base.Base.{Base}
use Rattle.cmh_segment3.specs.declared.links.LinkState.{LinkState}
use Rattle.cmh_bases3.proofs.Numbers.{all_in, numbers_ascend}
use Rattle.cmh_bases3.proofs.Places.{few_numbers, few_pairs, pairs_ascend, rows_length, small_numbers, so_many_numbers, some_ascend}
use Rattle.cmh_bases3.specs.Inner.Kinds.{HasKinds}
use Rattle.cmh_bases3.specs.Inner.Rows.{marked_by, pair_of, stamped_of, stamped_pair_of}
use Rattle.cmh_bases3.specs.FittingLinks.{FitLinks}

-- ---- rows of pairs

-- no more than so many
few_of_all : (n m : ℕ) → n ≤ 9999 * m → m ≡ 9999 → n ≤ 99980001
few_of_all n m few e = omega (arith, few, e)

module _ (test : ℕ → ℕ → Bool) where
  few_where : length (pairs_where test all_numbers all_numbers) ≤ 99980001
  few_where =
      few_of_all (length (pairs_where test all_numbers all_numbers)) (length all_numbers)
      (few_pairs (λ a. filter (test a) all_numbers) pair_of all_numbers (λ a. few_numbers (test a))) so_many_numbers

  are_pairs : AllByRecursion IsPairRow (pairs_where test all_numbers all_numbers) → AreRows IsPairRow pair_place (pairs_where test all_numbers all_numbers)
  are_pairs each = record {
    few = (let few = few_where in omega (arith, few));
    ascending = pairs_ascend (λ a. filter (test a) all_numbers) pair_place pair_of (λ a b. refl) all_numbers numbers_ascend (λ a. some_ascend (test a)) (λ a. small_numbers (test a));
    each = each;
  }

module _ (seconds : ℕ → List ℕ) (stamp : ℕ → ℕ → ℕ) (few : (a : ℕ) → length (seconds a) ≤ 9999) where
  few_stamped : length (stamped_pairs seconds stamp all_numbers) ≤ 99980001
  few_stamped =
      few_of_all (length (stamped_pairs seconds stamp all_numbers)) (length all_numbers) (few_pairs seconds (stamped_pair_of stamp) all_numbers few) so_many_numbers

  are_stamped_pairs : ((a : ℕ) → IsAscending (seconds a)) → ((a : ℕ) → AllByRecursion (λ k. k < 65536) (seconds a)) → AllByRecursion IsStampedPairRow (stamped_pairs seconds stamp all_numbers)
      → AreRows IsStampedPairRow stamped_pair_place (stamped_pairs seconds stamp all_numbers)
  are_stamped_pairs up small each = record {
    few = (let n = few_stamped in omega (arith, n));
    ascending = pairs_ascend seconds stamped_pair_place (stamped_pair_of stamp) (λ a b. refl) all_numbers numbers_ascend up small;
    each = each;
  }

-- ---- rows of processes

module _ (test : ℕ → Bool) (stamp : ℕ → ℕ) where
  few_processes : length (stamped_where test stamp all_numbers) ≤ 9999
  few_processes = let same = length-map (filter test all_numbers) (stamped_of stamp) in let few = few_numbers test in omega (arith, same, few)

  places_of : (ps : List ℕ) → map stamped_place (map (stamped_of stamp) ps) ≡ ps
  places_of [] = refl
  places_of (p ∷ ps) = ap (λ l. p ∷ l) (places_of ps)

  are_processes : AllByRecursion IsStampedRow (stamped_where test stamp all_numbers) → AreRows IsStampedRow stamped_place (stamped_where test stamp all_numbers)
  are_processes each = record {
    few = (let few = few_processes in omega (arith, few));
    ascending = subst IsAscending (sym (places_of (filter test all_numbers))) (some_ascend test);
    each = each;
  }

-- ---- all rows

-- so many bytes fit, where each list has no more than so many rows
fit_bytes : (base : Base) → length base.waits ≤ 99980001 → length base.leaving ≤ 99980001 → length base.owed ≤ 99980001 → length base.dependents ≤ 99980001
    → length base.declared ≤ 9999 → length base.stamps ≤ 9999 → length (rows_spelling link_row base.links) ≤ 2 ^ 30 → length (base_spelling base) < 2 ^ 32
fit_bytes base waits leaving owed dependents declared stamps links =
    let from_links = rows_spelling link_row base.links in
    let from_stamps = rows_spelling stamped_row base.stamps ++ from_links in
    let from_declared = rows_spelling stamped_row base.declared ++ from_stamps in
    let from_dependents = rows_spelling stamped_pair_row base.dependents ++ from_declared in
    let from_owed = rows_spelling pair_row base.owed ++ from_dependents in
    let from_leaving = rows_spelling pair_row base.leaving ++ from_owed in
    total (rows_spelling stamped_pair_row base.waits) (rows_spelling pair_row base.leaving) (rows_spelling pair_row base.owed) (rows_spelling stamped_pair_row base.dependents)
    (rows_spelling stamped_row base.declared) (rows_spelling stamped_row base.stamps) from_links
    (length base.waits) (length base.leaving) (length base.owed) (length base.dependents) (length base.declared) (length base.stamps)
    (rows_length stamped_pair_row 12 (λ x. refl) base.waits) (rows_length pair_row 4 (λ x. refl) base.leaving) (rows_length pair_row 4 (λ x. refl) base.owed)
    (rows_length stamped_pair_row 12 (λ x. refl) base.dependents) (rows_length stamped_row 10 (λ x. refl) base.declared) (rows_length stamped_row 10 (λ x. refl) base.stamps)
    waits leaving owed dependents declared stamps links
  where
    total : (a b c d e f g : List ℕ) (i j k l m n : ℕ) → length a ≡ 4 + 12 * i → length b ≡ 4 + 4 * j → length c ≡ 4 + 4 * k → length d ≡ 4 + 12 * l → length e ≡ 4 + 10 * m → length f ≡ 4 + 10 * n
        → i ≤ 99980001 → j ≤ 99980001 → k ≤ 99980001 → l ≤ 99980001 → m ≤ 9999 → n ≤ 9999 → length g ≤ 2 ^ 30 → length (a ++ (b ++ (c ++ (d ++ (e ++ (f ++ g)))))) < 2 ^ 32
    total a b c d e f g i j k l m n ea eb ec ed ee ef hi hj hk hl hm hn hg =
        let l1 = length-append f g in
        let l2 = length-append e (f ++ g) in
        let l3 = length-append d (e ++ (f ++ g)) in
        let l4 = length-append c (d ++ (e ++ (f ++ g))) in
        let l5 = length-append b (c ++ (d ++ (e ++ (f ++ g)))) in
        let l6 = length-append a (b ++ (c ++ (d ++ (e ++ (f ++ g))))) in
        omega (arith, ea, eb, ec, ed, ee, ef, hi, hj, hk, hl, hm, hn, hg, l1, l2, l3, l4, l5, l6)

module _ (c : Controller) (known : HasFacts c) (stop : ℕ → ℕ) (links : List LinkState) where
  small_waits : (j : ℕ) → AllByRecursion (λ k. k < 65536) ((state_of c).waits j)
  small_waits j =
      all_in (λ k. k < 65536) ((state_of c).waits j) (λ k there. let high = (known.numbers k (known.facts.waits_home j k there).1).most in omega (arith, high))

  few_waits : (j : ℕ) → length ((state_of c).waits j) ≤ 9999
  few_waits j = let few = known.facts.few_waits j in omega (arith, few)

  few_marks : (k : ℕ) → length (marked_by (state_of c) k) ≤ 9999
  few_marks k = few_numbers (λ i. not ((state_of c).marks k i == 0))

  pub is_base : HasKinds (base_of (state_of c) stop links) → FitLinks links → IsBase (base_of (state_of c) stop links)
  is_base kinds fit = record {
    waits = are_stamped_pairs (state_of c).waits (state_of c).since few_waits known.facts.waits_ascend small_waits kinds.waits;
    leaving = are_pairs (state_of c).leaving kinds.leaving;
    owed = are_pairs (state_of c).owed kinds.owed;
    dependents = are_stamped_pairs (marked_by (state_of c)) (state_of c).marks few_marks (λ k. some_ascend (λ i. not ((state_of c).marks k i == 0)))
        (λ k. small_numbers (λ i. not ((state_of c).marks k i == 0))) kinds.dependents;
    declared = are_processes (state_of c).declared stop kinds.declared;
    stamps = are_processes (λ j. not ((state_of c).stamp j == 0)) (state_of c).stamp kinds.stamps;
    links = fit.rows;
    fits = fit_bytes (base_of (state_of c) stop links) (few_stamped (state_of c).waits (state_of c).since few_waits) (few_where (state_of c).leaving) (few_where (state_of c).owed)
        (few_stamped (marked_by (state_of c)) (state_of c).marks few_marks) (few_processes (state_of c).declared stop) (few_processes (λ j. not ((state_of c).stamp j == 0)) (state_of c).stamp) fit.short;
  }

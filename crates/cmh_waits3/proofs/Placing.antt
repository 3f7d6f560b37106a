-- Where a binary search ends in a list of waits.
use Rattle.std.proofs.Common.{◌≡◌, ℕ, zero, suc, ◌<◌, ◌≤◌, true, false, ◌||◌, ◌==◌, List, [], ◌∷◌, length, get_or, take, drop, Result, Ok, Err, IfOk, IfErr, refl, sym, ap, ◌∙◌, inl, inr, arith}
use Rattle.std.specs.List.{AllByRecursion}
use Rattle.std.specs.List.Sorted.{IsBinarySearchResult, IsNonDecreasingBy, IsSearchInRange}
use Rattle.std.specs.Ordering.{nat_cmp, ordering_index}
use Rattle.std.specs.Result.{is_ok}
use Rattle.std.proofs.lemmas.Bool.{cases_eq, eqb-true, eq-eqb, ne_eqb, cases_Bool}
use Rattle.std.proofs.lemmas.Bool.Decides.{nat_tests}
use Rattle.std.proofs.lemmas.Cmp.{ranked}
use Rattle.cmh_model3.specs.Lists.{IsAscending, in_list}
use Rattle.cmh_model3.proofs.Counts.{not_after, or_no}
use Rattle.cmh_waits3.specs.declared.wait.Wait.{Wait}
use Rattle.cmh_waits3.specs.Inner.Inserting.{IsPlaceFor}
use Rattle.cmh_waits3.specs.Rows.{others_than, targets_of}
use Rattle.cmh_waits3.proofs.Rows.{others_apart}

abbrev no_wait : Wait
no_wait = record { target = 0; since = 0 }

abbrev target_at : List Wait → ℕ → Wait → ℕ
target_at ws i d = (get_or ws i d).target

above_at : (x : ℕ) (ws : List Wait) (i : ℕ) (d : Wait) → AllByRecursion (λ k. x < k) (targets_of ws) → i < length ws → x < target_at ws i d
above_at x [] i d above inside = absurd (omega (arith, inside))
above_at x (w ∷ ws) zero d above inside = above.0
above_at x (w ∷ ws) (suc i) d above inside = above_at x ws i d above.1 (omega (arith, inside))

rising : (ws : List Wait) (i j : ℕ) (d : Wait) → IsAscending (targets_of ws) → i < j → j < length ws → target_at ws i d < target_at ws j d
rising [] i j d up less inside = absurd (omega (arith, inside))
rising (w ∷ ws) i zero d up less inside = absurd (omega (arith, less))
rising (w ∷ ws) zero (suc j) d up less inside = above_at w.target ws j d up.0 (omega (arith, inside))
rising (w ∷ ws) (suc i) (suc j) d up less inside = rising ws i j d up.1 (omega (arith, less)) (omega (arith, inside))

all_before : (t : ℕ) (ws : List Wait) (i : ℕ) → i ≤ length ws → ((j : ℕ) → j < i → target_at ws j no_wait < t) → AllByRecursion (λ k. k < t) (targets_of (take i ws))
all_before t ws zero within each = tt
all_before t [] (suc i) within each = absurd (omega (arith, within))
all_before t (w ∷ ws) (suc i) within each = (each 0 (omega arith), all_before t ws i (omega (arith, within)) (λ j l. each (suc j) (omega (arith, l))))

all_after : (t : ℕ) (ws : List Wait) (i : ℕ) → i ≤ length ws → ((j : ℕ) → i ≤ j → j < length ws → t < target_at ws j no_wait) → AllByRecursion (λ k. t < k) (targets_of (drop i ws))
all_after t [] zero within each = tt
all_after t [] (suc i) within each = absurd (omega (arith, within))
all_after t (w ∷ ws) zero within each = (each 0 (omega arith) (omega arith), all_after t ws zero (omega arith) (λ j low l. each (suc j) (omega arith) (omega (arith, l))))
all_after t (w ∷ ws) (suc i) within each = all_after t ws i (omega (arith, within)) (λ j low l. each (suc j) (omega (arith, low)) (omega (arith, l)))

targets_at : (ws : List Wait) (i : ℕ) → i < length ws → get_or (targets_of ws) i 0 ≡ target_at ws i no_wait
targets_at [] i inside = absurd (omega (arith, inside))
targets_at (w ∷ ws) zero inside = refl
targets_at (w ∷ ws) (suc i) inside = targets_at ws i (omega (arith, inside))

-- a place of the target, or the place where it would stand
pub record IsSearched (ws : List Wait) (t : ℕ) (r : Result ℕ ℕ) : Type 0 where
  pub at : IfOk r (λ i. (i < length ws) × (get_or (targets_of ws) i 0 ≡ t))
  pub before : IfErr r (λ i. (i ≤ length ws) × IsPlaceFor t i ws)

module _ (ws : List Wait) (up : IsAscending (targets_of ws)) (t : ℕ) where
  rises : IsNonDecreasingBy (λ w. ordering_index (nat_cmp w.target t)) ws
  rises i j d le inside =
      let keys_rise : target_at ws i d ≤ target_at ws j d = elim (cases_eq i j) [
        | inl e ↦ let same = ap (λ k. target_at ws k d) e in omega (arith, same)
        | inr n ↦ let less = rising ws i j d up (omega (arith, n, le)) inside in omega (arith, less)
      ] in
      grind (arith, nat_tests)

  pub searched : (r : Result ℕ ℕ) → IsSearchInRange r (length ws) → IsBinarySearchResult (λ w. nat_cmp w.target t) ws r → IsSearched ws t r
  searched (Ok i) within equal = record { at = (within, targets_at ws i within ∙ ranked _ t _ (sym (equal no_wait))); before = tt }
  searched (Err i) within parted = record {
    at = tt;
    before = (
      within,
      record {
        below = all_before t ws i within (λ j l. ranked _ t _ (sym ((parted rises).0 j no_wait (omega arith) l)));
        above = all_after t ws i within (λ j low l. ranked _ t _ (sym ((parted rises).1 j no_wait low l)));
      },
    );
  }

-- what was found is in the list, and what has a place to stand is not
pub found_in : (ws : List Wait) (i t : ℕ) → i < length ws → get_or (targets_of ws) i 0 ≡ t → in_list (targets_of ws) t ≡ true
found_in [] i t inside is = absurd (omega (arith, inside))
found_in (w ∷ ws) zero t inside is = ap (λ b. b || in_list (targets_of ws) t) (eq-eqb w.target t is)
found_in (w ∷ ws) (suc i) t inside is = elim (cases_Bool (w.target == t)) [
  | inl e ↦ ap (λ b. b || in_list (targets_of ws) t) e
  | inr e ↦ ap (λ b. b || in_list (targets_of ws) t) e ∙ found_in ws i t (omega (arith, inside)) is
]

pub not_there : (ws : List Wait) (i t : ℕ) → IsPlaceFor t i ws → in_list (targets_of ws) t ≡ false
not_there ws i t place = go ws i place.below place.above
  where
    go : (ws : List Wait) (i : ℕ) → AllByRecursion (λ k. k < t) (targets_of (take i ws)) → AllByRecursion (λ k. t < k) (targets_of (drop i ws)) → in_list (targets_of ws) t ≡ false
    go [] i below above = refl
    go (w ∷ ws) zero below above = not_after t (targets_of (w ∷ ws)) above
    go (w ∷ ws) (suc i) below above =
        let low = below.0 in
        ap (λ b. b || in_list (targets_of ws) t) (ne_eqb w.target t (λ e. absurd (omega (arith, e, low)))) ∙ go ws i below.1 above

pub there_is : (ws : List Wait) (t : ℕ) (r : Result ℕ ℕ) → IfOk r (λ i. (i < length ws) × (get_or (targets_of ws) i 0 ≡ t)) → IfErr r (λ i. (i ≤ length ws) × IsPlaceFor t i ws) → is_ok r ≡ in_list (targets_of ws) t
there_is ws t (Ok i) at none = sym (found_in ws i t at.0 at.1)
there_is ws t (Err i) at none = sym (not_there ws i t none.1)

-- nothing is taken where it would stand
pub none_taken : (ws : List Wait) (i t : ℕ) → IsPlaceFor t i ws → ws ≡ others_than (t ∷ []) ws
none_taken ws i t place = sym (others_apart (t ∷ []) ws (λ k h. ap (in_list (targets_of ws)) (sym (eqb-true t k (sym (or_no (t == k)) ∙ h))) ∙ not_there ws i t place))

-- The open waits, by their askers' numbers.
use Rattle.std.proofs.Common.{◌≡◌, ◌↔◌, ℕ, ◌+◌, ◌<◌, ◌≤◌, true, false, List, [], ◌++◌, length, map, get_or, sym, ap, subst, ◌∙◌, inl, inr, arith, true≢false}
use Rattle.std.specs.Prelude.{Contains}
use Rattle.std.specs.List.Sorted.{IsStrictlySortedBy, IsStrictlyIncreasing}
use Rattle.std.proofs.lemmas.Bool.{cases_eq, cases_lt}
use Rattle.std.proofs.lemmas.List.{get_or_past}
use Rattle.std.proofs.lemmas.List.Elements.{Contains-append_left, Contains-append_right, Contains-append_cases}
use Rattle.cmh_frames.specs.Number.{IsNumber}
use Rattle.cmh_frames.proofs.Members.{found_at, found_from, no_member}
use Rattle.cmh_waits.specs.Rows.{is_in}
use Rattle.cmh_rules.proofs.Leaving.{sorted_append, pairs_ascend, all_above, in_pairs, from_pairs}
use Rattle.cmh_audit.specs.Turns.{is_open}
use Rattle.cmh_audit.specs.Inner.Turns.{AreByAsker, ArePairsOf}

-- ---- where the lists end

none_past : (rows : List (List ℕ)) (j k : ℕ) → length rows ≤ j → is_open rows j k ≡ false
none_past rows j k past = ap (λ row. is_in row k) (get_or_past rows j [] past)

within : (rows : List (List ℕ)) (j k : ℕ) → is_open rows j k ≡ true → j < length rows
within rows j k h = elim (cases_lt j (length rows)) [
  | inl l ↦ l
  | inr past ↦ absurd (true≢false (sym h ∙ none_past rows j k past))
]

-- ---- the pairs, list by list

pub pairs_begin : (rows : List (List ℕ)) → ArePairsOf rows 0 []
unfolding IsStrictlySortedBy
pairs_begin rows = record { all = λ e. (λ c. absurd (no_member e c), λ h. absurd (let l = h.0 in omega (arith, l))); ascending = tt }

module _ (rows : List (List ℕ)) (n : ℕ) (pairs : List (ℕ × ℕ)) (so_far : ArePairsOf rows n pairs) where
  -- a list at no process's number
  pub pairs_skip : AreByAsker rows → (IsNumber n → ⊥) → ArePairsOf rows (n + 1) pairs
  pairs_skip by_asker none = record {
    all = λ e. (
      λ c. let h = (so_far.all e).0 c in (let l = h.0 in omega (arith, l), h.1),
      λ h. elim (cases_eq e.0 n) [
        | inl is ↦ absurd (none (subst IsNumber is (by_asker.numbers e.0 e.1 h.1)))
        | inr other ↦ (so_far.all e).1 (let l = h.0 in omega (arith, l, other), h.1)
      ],
    );
    ascending = so_far.ascending;
  }

  -- the list of one more asker
  pub pairs_more : (row : List ℕ) → get_or rows n [] ≡ row → IsStrictlyIncreasing row → ArePairsOf rows (n + 1) (pairs ++ map (λ k. (n, k)) row)
  pairs_more row is up =
      let new : List (ℕ × ℕ) = map (λ k. (n, k)) row in
      record {
        all = λ e. (
          λ c. elim (Contains-append_cases pairs new e c) [
            | inl d ↦ let h = (so_far.all e).0 d in (let l = h.0 in omega (arith, l), h.1)
            | inr d ↦
                let pair = from_pairs n row e d in (
                  let same = pair.0 in omega (arith, same),
                  ap (λ j. is_open rows j e.1) (sym pair.0) ∙ ap (λ r. is_in r e.1) is ∙ found_from row e.1 pair.1,
                )
          ],
          λ h. elim (cases_eq e.0 n) [
            | inl same ↦
                let found = found_at row e.1 (ap (λ r. is_in r e.1) (sym is) ∙ ap (λ j. is_open rows j e.1) (sym same) ∙ h.1) in
                Contains-append_right pairs new e (subst (λ j. Contains {X = ℕ × ℕ} new (j, e.1)) (sym same) (in_pairs n row e.1 found))
            | inr other ↦ Contains-append_left pairs new e ((so_far.all e).1 (let l = h.0 in omega (arith, l, other), h.1))
          ],
        );
        ascending = sorted_append pairs new so_far.ascending (pairs_ascend n row up) (λ x c. all_above x.0 n x.1 row ((so_far.all x).0 c).0);
      }

-- all lists
pub pairs_end : (rows : List (List ℕ)) (n : ℕ) (pairs : List (ℕ × ℕ)) → length rows ≤ n → ArePairsOf rows n pairs → (j k : ℕ) → Contains pairs (j, k) ↔ (is_open rows j k ≡ true)
pairs_end rows n pairs end so_far j k = (
  λ c. ((so_far.all (j, k)).0 c).1,
  λ h. (so_far.all (j, k)).1 (let l = within rows j k h in omega (arith, l, end), h),
)

-- Where a site stands in the topology.
use Rattle.std.proofs.Common.{◌≡◌, ◌==◌, ℕ, true, List, get_or, sym, ap, ◌∙◌, inl, inr, arith, nat_cmp, Ok, Err}
use Rattle.std.specs.List.{list_any}
use Rattle.std.specs.List.Sorted.{IsBinarySearchResult, IsStrictlyIncreasing}
use Rattle.std.proofs.lemmas.Bool.{cases_lt}
use Rattle.std.proofs.lemmas.List.{get_or_default}
use Rattle.std.proofs.lemmas.List.Sorted.{searched}
use Rattle.cmh_frames.proofs.Members.{found_at, not_decreasing}

-- a number that stands in a list in order is found there
pub none_missed : (xs : List ℕ) (x i : ℕ) → IsStrictlyIncreasing xs → IsBinarySearchResult (λ y. nat_cmp y x) xs (Err i) → list_any (λ q. q == x) xs ≡ true → ⊥
none_missed xs x i up position known =
    let missed = searched xs x (Err i) position (not_decreasing xs up) in
    let place = found_at xs x known in
    let same = get_or_default xs place.0 x 0 place.1 in
    let is = place.2 in
    elim (cases_lt place.0 i) [
      | inl below ↦ let less = missed.1 place.0 below in omega arith
      | inr above ↦ let more = missed.2 place.0 above place.1 in omega arith
    ]

-- and where it is found it stands
pub stands_at : (xs ys : List ℕ) (x i : ℕ) → xs ≡ ys → IsStrictlyIncreasing xs → IsBinarySearchResult (λ y. nat_cmp y x) xs (Ok i) → get_or ys i 0 ≡ x
stands_at xs ys x i same up position =
    let at = searched xs x (Ok i) position (not_decreasing xs up) in
    ap (λ (zs : List ℕ). get_or zs i 0) (sym same) ∙ at.1

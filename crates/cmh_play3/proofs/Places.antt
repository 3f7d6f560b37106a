-- Where sites stand in a topology.
use Rattle.std.proofs.Common.{◌≡◌, ◌==◌, ◌||◌, ℕ, Bool, true, false, List, [], ◌∷◌, Some, get_or, sym, ap, ◌∙◌, inl, inr, arith, nat_cmp, Ok, Err}
use Rattle.std.specs.Prelude.{if◌then◌else◌, map}
use Rattle.std.specs.List.{list_any}
use Rattle.std.specs.List.Sorted.{IsBinarySearchResult, IsStrictlyIncreasing}
use Rattle.std.proofs.lemmas.Bool.{cases_lt, eq-eqb, or_left, or_right}
use Rattle.std.proofs.lemmas.List.{get_or_default}
use Rattle.std.proofs.lemmas.List.Sorted.{searched}
use Rattle.cmh_frames.proofs.Members.{found_at, not_decreasing}
use Rattle.cmh_frames.specs.Topology.{home_in}
use Rattle.cmh_topology3.specs.Topology.{Topology, home, is_site}

-- a number that stands in a list in order is found there
pub none_missed : (xs : List ℕ) (x i : ℕ) → IsStrictlyIncreasing xs → IsBinarySearchResult (λ y. nat_cmp y x) xs (Err i) → list_any (λ q. q == x) xs ≡ true → ⊥
none_missed xs x i up position known =
    let missed = searched xs x (Err i) position (not_decreasing xs up) in
    let place = found_at xs x known in
    let same = get_or_default xs place.0 x 0 place.1 in
    let is = place.2 in
    elim (cases_lt place.0 i) [
      | inl below ↦ let less = missed.1 place.0 below in omega arith
      | inr above ↦ let more = missed.2 place.0 above place.1 in omega arith
    ]

-- and where it is found it stands
pub stands_at : (xs ys : List ℕ) (x i : ℕ) → xs ≡ ys → IsStrictlyIncreasing xs → IsBinarySearchResult (λ y. nat_cmp y x) xs (Ok i) → get_or ys i 0 ≡ x
stands_at xs ys x i same up position =
    let at = searched xs x (Ok i) position (not_decreasing xs up) in
    ap (λ (zs : List ℕ). get_or zs i 0) (sym same) ∙ at.1

-- ---- homes are sites

abbrev sites_in : List (ℕ × List ℕ) → List ℕ
sites_in rows = map (λ (row : ℕ × List ℕ). row.0) rows

one_more : (row : ℕ × List ℕ) (rows : List (ℕ × List ℕ)) (p s : ℕ) (here : Bool) → (home_in rows p ≡ Some s → list_any (λ q. q == s) (sites_in rows) ≡ true)
    → (if here then Some row.0 else home_in rows p) ≡ Some s → ((row.0 == s) || list_any (λ q. q == s) (sites_in rows)) ≡ true
one_more row rows p s true more e = let same : row.0 ≡ s = cc in or_left (row.0 == s) _ (eq-eqb row.0 s same)
one_more row rows p s false more e = or_right (row.0 == s) _ (more e)

is_site-home_in : (rows : List (ℕ × List ℕ)) (p s : ℕ) → home_in rows p ≡ Some s → list_any (λ q. q == s) (sites_in rows) ≡ true
is_site-home_in [] p s h = absurd (cc)
is_site-home_in (row ∷ rows) p s h = one_more row rows p s (list_any (λ q. q == p) row.1) (is_site-home_in rows p s) h

pub is_site-home : (t : Topology) (p s : ℕ) → home t p ≡ Some s → is_site t s ≡ true
is_site-home t p s h = is_site-home_in t.rows p s h

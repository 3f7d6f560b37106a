-- Processes in ascending order: one more, and one less.
use Rattle.std.proofs.Common.{◌≡◌, ◌+◌, ◌-◌, ◌<◌, ◌≤◌, ℕ, not, ◌&&◌, ◌||◌, ◌==◌, List, ◌∷◌, length, get_or, sym, ap, ◌∙◌, inl, inr, arith, Ok, Err, nat_cmp}
use Rattle.std.specs.List.{filter, insert, remove_range}
use Rattle.std.specs.List.Sorted.{IsStrictlyIncreasing, IsBinarySearchResult}
use Rattle.std.proofs.lemmas.Bool.{eqb-true, eq-eqb, ne_eqb, cases_lt, cases_eq}
use Rattle.std.proofs.lemmas.List.{get_or_default}
use Rattle.std.proofs.lemmas.List.Edits.{length-insert, get_or-insert_below, get_or-insert_at, get_or-insert_above}
use Rattle.std.proofs.lemmas.List.Sorted.{searched, list_any-IsPermutation, IsPermutation-insert}
use Rattle.std.proofs.lemmas.Map.Views.{any-filter_same}
use Rattle.cmh_frames.proofs.Apart.{eqb_comm}
use Rattle.cmh_frames.proofs.Members.{not_decreasing}
use Rattle.cmh_waits.specs.Rows.{is_in}
use Rattle.cmh_waits.proofs.Members.{among_is}
use Rattle.cmh_waits.proofs.Ordered.{filter_all, filter_rest}
use Rattle.cmh_waits.proofs.RowLemmas.{in_at, rising}

increasing-insert : (xs : List ℕ) (i x : ℕ) → IsStrictlyIncreasing xs → i ≤ length xs → ((k : ℕ) → k < i → get_or xs k 0 < x) → ((k : ℕ) → i ≤ k → k < length xs → x < get_or xs k 0) → IsStrictlyIncreasing (insert xs i x)
increasing-insert xs i x up inside below above = λ k h.
    let longer = length-insert xs i x inside in
    elim (cases_lt (k + 1) i) [
      | inl less ↦
          let here = get_or-insert_below xs i x 0 k (omega arith) inside in
          let next = get_or-insert_below xs i x 0 (k + 1) less inside in
          let rise : get_or xs k 0 < get_or xs (k + 1) 0 = up k (omega arith) in
          omega (arith, here, next, rise)
      | inr more ↦ elim (cases_eq (k + 1) i) [
        | inl e ↦
            let here = get_or-insert_below xs i x 0 k (omega arith) inside in
            let next : get_or (insert xs i x) (k + 1) 0 ≡ x = ap (λ j. get_or (insert xs i x) j 0) e ∙ get_or-insert_at xs i x 0 inside in
            let rise = below k (omega arith) in
            omega (arith, here, next, rise)
        | inr n ↦
            let next = get_or-insert_above xs i x 0 k (omega (arith, n, more)) inside in
            elim (cases_eq k i) [
              | inl e ↦
                  let here : get_or (insert xs i x) k 0 ≡ x = ap (λ j. get_or (insert xs i x) j 0) e ∙ get_or-insert_at xs i x 0 inside in
                  let rise = above k (omega arith) (omega (arith, h, longer)) in
                  omega (arith, here, next, rise)
              | inr m ↦
                  let back : (k - 1) + 1 ≡ k = omega (arith, m, n, more) in
                  let here : get_or (insert xs i x) k 0 ≡ get_or xs (k - 1) 0 = sym (ap (λ j. get_or (insert xs i x) j 0) back) ∙ get_or-insert_above xs i x 0 (k - 1) (omega (arith, m, n, more)) inside in
                  let rise = rising xs up (k - 1) k (omega (arith, m, n, more)) (omega (arith, h, longer)) in
                  omega (arith, here, next, rise)
            ]
      ]
    ]

-- one more, at its place
pub put_increasing : (xs : List ℕ) (i x : ℕ) → IsStrictlyIncreasing xs → IsBinarySearchResult (λ y. nat_cmp y x) xs (Err i) → IsStrictlyIncreasing (insert xs i x)
put_increasing xs i x up search =
    let at = searched xs x (Err i) search (not_decreasing xs up) in
    increasing-insert xs i x up at.0 at.1 at.2

pub in_insert : (xs : List ℕ) (i x q : ℕ) → is_in (insert xs i x) q ≡ ((q == x) || is_in xs q)
in_insert xs i x q = sym (list_any-IsPermutation (λ y. y == q) (x ∷ xs) (insert xs i x) (IsPermutation-insert xs i x)) ∙ ap (λ b. b || is_in xs q) (eqb_comm x q)

-- one that is there already
pub in_there : (xs : List ℕ) (i x q : ℕ) → IsStrictlyIncreasing xs → IsBinarySearchResult (λ y. nat_cmp y x) xs (Ok i) → is_in xs q ≡ ((q == x) || is_in xs q)
in_there xs i x q up search =
    let at = searched xs x (Ok i) search (not_decreasing xs up) in
    elim (cases_eq q x) [
      | inl e ↦ ap (is_in xs) e ∙ in_at xs i x at.0 at.1 ∙ sym (ap (λ b. b || is_in xs q) (eq-eqb q x e))
      | inr n ↦ sym (ap (λ b. b || is_in xs q) (ne_eqb q x n))
    ]

-- one less
pub taken_increasing : (xs : List ℕ) (i x : ℕ) → IsStrictlyIncreasing xs → IsBinarySearchResult (λ y. nat_cmp y x) xs (Ok i) → remove_range xs i (i + 1) ≡ filter (λ q. not (q == x)) xs
taken_increasing xs i x up search =
    let at = searched xs x (Ok i) search (not_decreasing xs up) in
    let inside : i < length xs = at.0 in
    let is : get_or xs i 0 ≡ x = at.1 in
    filter_rest (λ q. q == x) xs i (i + 1) (omega arith) (omega arith)
    (λ k d low high. ne_eqb (get_or xs k d) x (λ e. let less = rising xs up k i high inside in let same = get_or_default xs k d 0 (omega (arith, high, inside)) in omega (arith, e, less, is, same)))
    (λ k d low high. let here : k ≡ i = omega arith in eq-eqb (get_or xs k d) x (ap (λ j. get_or xs j d) here ∙ get_or_default xs i d 0 inside ∙ is))
    (λ k d low high. ne_eqb (get_or xs k d) x (λ e. let more = rising xs up i k (omega arith) high in let same = get_or_default xs k d 0 high in omega (arith, e, more, is, same)))

pub none_increasing : (xs : List ℕ) (i x : ℕ) → IsStrictlyIncreasing xs → IsBinarySearchResult (λ y. nat_cmp y x) xs (Err i) → xs ≡ filter (λ q. not (q == x)) xs
none_increasing xs i x up search = filter_all (λ q. q == x) xs (sym (among_is xs x (Err i) up search))

pub in_less : (xs : List ℕ) (x q : ℕ) → is_in (filter (λ y. not (y == x)) xs) q ≡ (not (q == x) && is_in xs q)
in_less xs x q = any-filter_same (λ y. y == q) (λ y. not (y == x)) (not (q == x)) (λ k e. ap (λ y. not (y == x)) (eqb-true k q e)) xs

-- A row of a table changed.
use Rattle.std.proofs.Common.{◌≡◌, ℕ, ◌<◌, Bool, true, false, not, ◌&&◌, ◌||◌, List, [], length, get_or, ◌==◌, if◌then◌else◌, refl, sym, ap, ◌∙◌, inl, inr}
use Rattle.std.proofs.Math.ListN.{set}
use Rattle.std.proofs.Math.Path.{fun_ext}
use Rattle.std.proofs.lemmas.Bool.{cases_eq, eq-eqb, ne_eqb}
use Rattle.std.proofs.lemmas.List.{get_or-set_same, get_or-set_other}
use Rattle.cmh_model3.specs.Lists.{in_list, set_at, set_pair}
use Rattle.cmh_controller3.specs.declared.mark_row.Mark.{Mark}
use Rattle.cmh_controller3.specs.Tables.{marks_of, pairs_of, stamp_in}

module _ {X : Type 0} (rows : List X) (k : ℕ) (row none : X) (inside : k < length rows) where
  -- the row of k is another, and those of others are as before
  pub row_set : (a : ℕ) → get_or (set rows k row) a none ≡ (if a == k then row else get_or rows a none)
  row_set a = elim (cases_eq a k) [
    | inl e ↦ ap (λ b. get_or (set rows k row) b none) e ∙ get_or-set_same rows k row none inside ∙ sym (ap (λ z. if z then row else get_or rows a none) (eq-eqb a k e))
    | inr n ↦ get_or-set_other rows k a row none n ∙ sym (ap (λ z. if z then row else get_or rows a none) (ne_eqb a k n))
  ]

  -- as a function of the number
  pub table_set : (λ a. get_or (set rows k row) a none) ≡ set_at (λ a. get_or rows a none) k row
  table_set = fun_ext row_set

-- ---- pairs

choose : {X Y : Type 0} (f : X → Y) (z : Bool) (a b : X) → f (if z then a else b) ≡ (if z then f a else f b)
choose f true a b = refl
choose f false a b = refl

module _ (rows : List (List ℕ)) (k : ℕ) (row : List ℕ) (inside : k < length rows) where
  pub pairs_set : (a b : ℕ) → pairs_of (set rows k row) a b ≡ (if a == k then in_list row b else pairs_of rows a b)
  pairs_set a b = ap (λ r. in_list r b) (row_set rows k row [] inside a) ∙ choose (λ r. in_list r b) (a == k) row (get_or rows a [])

  -- the row of k is another
  pub pairs_put : pairs_of (set rows k row) ≡ set_at (pairs_of rows) k (in_list row)
  pairs_put = fun_ext λ a. fun_ext λ b. pairs_set a b ∙ sym (choose (λ (f : ℕ → Bool). f b) (a == k) (in_list row) (pairs_of rows a))

  -- one pair more
  pub pairs_more : (j : ℕ) → ((b : ℕ) → in_list row b ≡ ((b == j) || in_list (get_or rows k []) b)) → pairs_of (set rows k row) ≡ set_pair (pairs_of rows) k j true
  pairs_more j more = fun_ext λ a. fun_ext λ b. pairs_set a b ∙ elim (cases_eq a k) [
    | inl e ↦
        ap (λ z. if z then in_list row b else pairs_of rows a b) (eq-eqb a k e) ∙ more b ∙ with_it (b == j) (in_list (get_or rows k []) b)
        ∙ ap (λ q. if b == j then true else pairs_of rows q b) (sym e)
        ∙ sym (ap (λ z. if z && (b == j) then true else pairs_of rows a b) (eq-eqb a k e))
    | inr n ↦ ap (λ z. if z then in_list row b else pairs_of rows a b) (ne_eqb a k n) ∙ sym (ap (λ z. if z && (b == j) then true else pairs_of rows a b) (ne_eqb a k n))
  ]
    where
      with_it : (x y : Bool) → (x || y) ≡ (if x then true else y)
      with_it true y = refl
      with_it false y = refl

  -- one pair less
  pub pairs_less : (j : ℕ) → ((b : ℕ) → in_list row b ≡ (not (b == j) && in_list (get_or rows k []) b)) → pairs_of (set rows k row) ≡ set_pair (pairs_of rows) k j false
  pairs_less j less = fun_ext λ a. fun_ext λ b. pairs_set a b ∙ elim (cases_eq a k) [
    | inl e ↦
        ap (λ z. if z then in_list row b else pairs_of rows a b) (eq-eqb a k e) ∙ less b ∙ without_it (b == j) (in_list (get_or rows k []) b)
        ∙ ap (λ q. if b == j then false else pairs_of rows q b) (sym e)
        ∙ sym (ap (λ z. if z && (b == j) then false else pairs_of rows a b) (eq-eqb a k e))
    | inr n ↦ ap (λ z. if z then in_list row b else pairs_of rows a b) (ne_eqb a k n) ∙ sym (ap (λ z. if z && (b == j) then false else pairs_of rows a b) (ne_eqb a k n))
  ]
    where
      without_it : (x y : Bool) → (not x && y) ≡ (if x then false else y)
      without_it true y = refl
      without_it false y = refl

-- ---- marks

module _ (rows : List (List Mark)) (k : ℕ) (row : List Mark) (inside : k < length rows) where
  marks_set : (a i : ℕ) → marks_of (set rows k row) a i ≡ (if a == k then stamp_in row i else marks_of rows a i)
  marks_set a i = ap (λ (r : List Mark). stamp_in r i) (row_set rows k row [] inside a) ∙ choose (λ (r : List Mark). stamp_in r i) (a == k) row (get_or rows a [])

  pub marks_put : (i n : ℕ) → ((q : ℕ) → stamp_in row q ≡ (if q == i then n else stamp_in (get_or rows k []) q)) → marks_of (set rows k row) ≡ set_at (marks_of rows) k (set_at (marks_of rows k) i n)
  marks_put i n put = fun_ext λ a. fun_ext λ q. marks_set a q ∙ ap (λ x. if a == k then x else marks_of rows a q) (put q)
      ∙ sym (choose (λ (f : ℕ → ℕ). f q) (a == k) (set_at (marks_of rows k) i n) (marks_of rows a))

  -- the row of k is another
  pub marks_row : marks_of (set rows k row) ≡ set_at (marks_of rows) k (stamp_in row)
  marks_row = fun_ext λ a. fun_ext λ q. marks_set a q ∙ sym (choose (λ (f : ℕ → ℕ). f q) (a == k) (stamp_in row) (marks_of rows a))

  pub marks_cleared : row ≡ [] → marks_of (set rows k row) ≡ set_at (marks_of rows) k (λ i. 0)
  marks_cleared none = marks_row ∙ ap (λ (r : List Mark). set_at (marks_of rows) k (stamp_in r)) none

-- Sums over lists.
use Rattle.std.proofs.Common.{◌≡◌, ◌≢◌, ℕ, ◌+◌, ◌*◌, ◌<◌, ◌≤◌, Bool, true, false, List, [], ◌∷◌, ◌==◌, length, refl, sym, ap, ◌∙◌, subst, inl, inr, true≢false, arith, mul-add, suc-mul, sum_by}
use Rattle.std.specs.List.{list_any, AllByRecursion}
use Rattle.std.proofs.lemmas.Bool.{eqb-true, or_cases, cases_eq}
use Rattle.std.proofs.lemmas.List.Sums.{sum_by-cons}
use Rattle.cmh_frames.specs.Rules.{IsAscending}

-- y is one of the list
abbrev pub On : List ℕ → ℕ → Type 0
On xs y = list_any (λ q. q == y) xs ≡ true

-- two terms each
pub sum-add : (f g : ℕ → ℕ) (xs : List ℕ) → sum_by (λ x. f x + g x) xs ≡ sum_by f xs + sum_by g xs
sum-add f g [] = refl
sum-add f g (x ∷ xs) =
    let a = sum_by-cons (λ x. f x + g x) x xs in
    let b = sum_by-cons f x xs in
    let c = sum_by-cons g x xs in
    let more = sum-add f g xs in
    omega arith

-- equal terms
pub sum-same : (f g : ℕ → ℕ) (xs : List ℕ) → ((x : ℕ) → f x ≡ g x) → sum_by f xs ≡ sum_by g xs
sum-same f g [] same = refl
sum-same f g (x ∷ xs) same =
    let a = sum_by-cons f x xs in
    let b = sum_by-cons g x xs in
    let here = same x in
    let more = sum-same f g xs same in
    omega arith

-- greater terms
pub sum-le : (f g : ℕ → ℕ) (xs : List ℕ) → ((x : ℕ) → f x ≤ g x) → sum_by f xs ≤ sum_by g xs
sum-le f g [] less = omega arith
sum-le f g (x ∷ xs) less =
    let a = sum_by-cons f x xs in
    let b = sum_by-cons g x xs in
    let here = less x in
    let more = sum-le f g xs less in
    omega arith

-- greater terms, of which one is greater by c
pub sum-less : (f g : ℕ → ℕ) (c : ℕ) (xs : List ℕ) (y : ℕ) → ((x : ℕ) → f x ≤ g x) → On xs y → f y + c ≤ g y → sum_by f xs + c ≤ sum_by g xs
sum-less f g c [] y less on here = absurd (true≢false (sym on))
sum-less f g c (x ∷ xs) y less on here = elim (or_cases (x == y) (list_any (λ q. q == y) xs) on) [
  | inl e ↦
      let a = sum_by-cons f x xs in
      let b = sum_by-cons g x xs in
      let one = subst (λ z. f z + c ≤ g z) (sym (eqb-true x y e)) here in
      let more = sum-le f g xs less in
      omega arith
  | inr e ↦
      let a = sum_by-cons f x xs in
      let b = sum_by-cons g x xs in
      let one = less x in
      let more = sum-less f g c xs y less e here in
      omega arith
]

-- each term so many times
pub sum-times : (f : ℕ → ℕ) (c : ℕ) (xs : List ℕ) → sum_by (λ x. c * f x) xs ≡ c * sum_by f xs
sum-times f c [] = omega arith
sum-times f c (x ∷ xs) =
    let a = sum_by-cons (λ y. c * f y) x xs in
    let b = ap (λ z. c * z) (sum_by-cons f x xs) in
    let parts = mul-add c (f x) (sum_by f xs) in
    let more = sum-times f c xs in
    omega arith

-- one of the terms
pub sum-has : (f : ℕ → ℕ) (xs : List ℕ) (y : ℕ) → On xs y → f y ≤ sum_by f xs
sum-has f [] y on = absurd (true≢false (sym on))
sum-has f (x ∷ xs) y on = elim (or_cases (x == y) (list_any (λ q. q == y) xs) on) [
  | inl e ↦ let a = sum_by-cons f x xs in let one = ap f (eqb-true x y e) in omega arith
  | inr e ↦ let a = sum_by-cons f x xs in let more = sum-has f xs y e in omega arith
]

-- terms of m at most
pub sum-most : (f : ℕ → ℕ) (m : ℕ) (xs : List ℕ) → ((x : ℕ) → f x ≤ m) → sum_by f xs ≤ length xs * m
sum-most f m [] few = omega arith
sum-most f m (x ∷ xs) few =
    let a = sum_by-cons f x xs in
    let one = few x in
    let more = sum-most f m xs few in
    let product = suc-mul (length xs) m in
    omega arith

-- where all above y are nothing
sum_above : (f : ℕ → ℕ) (y : ℕ) (xs : List ℕ) → AllByRecursion (λ z. y < z) xs → ((a : ℕ) → y ≢ a → f a ≡ 0) → sum_by f xs ≡ 0
sum_above f y [] above none = refl
sum_above f y (x ∷ xs) above none =
    let a = sum_by-cons f x xs in
    let higher : y < x = above.0 in
    let one = none x (λ e. omega (arith, higher, e)) in
    let more = sum_above f y xs above.1 none in
    omega arith

-- where all but one are nothing
pub sum-one : (f : ℕ → ℕ) (k y : ℕ) (xs : List ℕ) → IsAscending xs → ((a : ℕ) → y ≢ a → f a ≡ 0) → f y ≤ k → sum_by f xs ≤ k
sum-one f k y [] up none few = omega arith
sum-one f k y (x ∷ xs) up none few = elim (cases_eq y x) [
  | inl e ↦
      let a = sum_by-cons f x xs in
      let one = ap f e in
      let more = sum_above f y xs (subst (λ w. AllByRecursion (λ z. w < z) xs) (sym e) up.0) none in
      omega arith
  | inr n ↦
      let a = sum_by-cons f x xs in
      let one = none x n in
      let more = sum-one f k y xs up.1 none few in
      omega arith
]

-- ---- over pairs

abbrev pub sum_pairs : (ℕ → ℕ → ℕ) → List ℕ → ℕ
sum_pairs f xs = sum_by (λ a. sum_by (λ b. f a b) xs) xs

-- what goes in and what goes out, pair by pair
pub pairs_flow : (f g h k : ℕ → ℕ → ℕ) (xs : List ℕ) → ((a b : ℕ) → f a b + g a b ≡ h a b + k a b) → sum_pairs f xs + sum_pairs g xs ≡ sum_pairs h xs + sum_pairs k xs
pairs_flow f g h k xs same =
    sym (sum-add (λ a. sum_by (λ b. f a b) xs) (λ a. sum_by (λ b. g a b) xs) xs)
    ∙ sum-same (λ a. sum_by (λ b. f a b) xs + sum_by (λ b. g a b) xs) (λ a. sum_by (λ b. h a b) xs + sum_by (λ b. k a b) xs) xs
    (λ a. sym (sum-add (λ b. f a b) (λ b. g a b) xs) ∙ sum-same (λ b. f a b + g a b) (λ b. h a b + k a b) xs (λ b. same a b) ∙ sum-add (λ b. h a b) (λ b. k a b) xs)
    ∙ sum-add (λ a. sum_by (λ b. h a b) xs) (λ a. sum_by (λ b. k a b) xs) xs

pub pairs_le : (f g : ℕ → ℕ → ℕ) (xs : List ℕ) → ((a b : ℕ) → f a b ≤ g a b) → sum_pairs f xs ≤ sum_pairs g xs
pairs_le f g xs less = sum-le (λ a. sum_by (λ b. f a b) xs) (λ a. sum_by (λ b. g a b) xs) xs (λ a. sum-le (λ b. f a b) (λ b. g a b) xs (λ b. less a b))

pub pairs_less : (f g : ℕ → ℕ → ℕ) (c : ℕ) (xs : List ℕ) (x y : ℕ) → ((a b : ℕ) → f a b ≤ g a b) → On xs x → On xs y → f x y + c ≤ g x y → sum_pairs f xs + c ≤ sum_pairs g xs
pairs_less f g c xs x y less on_x on_y here =
    sum-less (λ a. sum_by (λ b. f a b) xs) (λ a. sum_by (λ b. g a b) xs) c xs x (λ a. sum-le (λ b. f a b) (λ b. g a b) xs (λ b. less a b)) on_x
    (sum-less (λ b. f x b) (λ b. g x b) c xs y (λ b. less x b) on_y here)

pub pairs_has : (f : ℕ → ℕ → ℕ) (xs : List ℕ) (x y : ℕ) → On xs x → On xs y → f x y ≤ sum_pairs f xs
pairs_has f xs x y on_x on_y =
    let inner = sum-has (λ b. f x b) xs y on_y in
    let outer = sum-has (λ a. sum_by (λ b. f a b) xs) xs x on_x in
    omega arith

pub pairs_most : (f : ℕ → ℕ → ℕ) (g : ℕ → ℕ) (xs : List ℕ) → ((a b : ℕ) → f a b ≤ g a) → sum_pairs f xs ≤ length xs * sum_by g xs
pairs_most f g xs few =
    let each = sum-le (λ a. sum_by (λ b. f a b) xs) (λ a. length xs * g a) xs (λ a. sum-most (λ b. f a b) (g a) xs (λ b. few a b)) in
    let all = sum-times g (length xs) xs in
    omega arith

-- ---- bits

-- a weight that counts where something is not so
abbrev pub lack : Bool → ℕ → ℕ
lack true n = 0
lack false n = n

-- where one truth leads to another, the lack of the other weighs no more
pub lack_le : (x y : Bool) (n : ℕ) → (x ≡ true → y ≡ true) → lack y n ≤ lack x n
lack_le true y n h = let is = ap (λ z. lack z n) (h refl) in omega arith
lack_le false true n h = omega arith
lack_le false false n h = omega arith

pub lack_most : (x : Bool) (n : ℕ) → lack x n ≤ n
lack_most true n = omega arith
lack_most false n = omega arith

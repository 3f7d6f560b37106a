-- The numbers of processes, and ascending lists of some of them.
use Rattle.std.proofs.Common.{◌≡◌, ℕ, zero, suc, ◌+◌, ◌<◌, ◌≤◌, ◌==◌, ◌&&◌, ◌||◌, Bool, true, false, cond, List, [], ◌∷◌, ◌++◌, slice_index, refl, sym, ap, ◌∙◌, subst, inl, inr, arith}
use Rattle.std.specs.List.{AllByRecursion, filter, flat_map}
use Rattle.std.specs.List.Sorted.{IsStrictlyIncreasing}
use Rattle.std.proofs.lemmas.Bool.{cases_eq, eq-eqb, eqb-true, ne_eqb, true≢false}
use Rattle.std.proofs.lemmas.Map.Views.{any-filter_same}
use Rattle.cmh_runs.specs.Number.{IsNumber}
use Rattle.cmh_model3.specs.Lists.{IsAscending, in_list}
use Rattle.cmh_waits3.proofs.Lists.{same_ascending}
use Rattle.cmh_segment3.specs.States.{all_numbers, count_from}

-- ---- ascending lists

all_above : (x y : ℕ) → x < y → (xs : List ℕ) → AllByRecursion (λ z. y < z) xs → AllByRecursion (λ z. x < z) xs
all_above x y h [] all = tt
all_above x y h (z ∷ xs) all = (let above : y < z = all.0 in omega arith, all_above x y h xs all.1)

increasing_tail : (x : ℕ) (xs : List ℕ) → IsStrictlyIncreasing (x ∷ xs) → IsStrictlyIncreasing xs
increasing_tail x xs up = λ k h. let e : suc k + 1 ≡ suc (k + 1) = omega arith in subst (λ m. slice_index xs k < slice_index (x ∷ xs) m) e (up (suc k) (omega arith))

head_below : (x : ℕ) (xs : List ℕ) → IsStrictlyIncreasing (x ∷ xs) → AllByRecursion (λ y. x < y) xs
head_below x [] up = tt
head_below x (y ∷ ys) up =
    let first : x < y = up 0 (omega arith) in
    (first, all_above x y first ys (head_below y ys (increasing_tail x (y ∷ ys) up)))

pub ascends : (xs : List ℕ) → IsStrictlyIncreasing xs → IsAscending xs
ascends [] up = tt
ascends (x ∷ xs) up = (head_below x xs up, ascends xs (increasing_tail x xs up))

-- those that pass a test
all_filter : (P : ℕ → Type 0) (p : ℕ → Bool) (xs : List ℕ) → AllByRecursion P xs → AllByRecursion P (filter p xs)
all_filter P p [] all = tt
all_filter P p (x ∷ xs) all = go (p x) (all_filter P p xs all.1)
  where
    go : (z : Bool) → AllByRecursion P (filter p xs) → AllByRecursion P (cond z (x ∷ filter p xs) (filter p xs))
    go true later = (all.0, later)
    go false later = later

pub filter_ascends : (p : ℕ → Bool) (xs : List ℕ) → IsAscending xs → IsAscending (filter p xs)
filter_ascends p [] up = tt
filter_ascends p (x ∷ xs) up = go (p x) (filter_ascends p xs up.1)
  where
    go : (z : Bool) → IsAscending (filter p xs) → IsAscending (cond z (x ∷ filter p xs) (filter p xs))
    go true later = (all_filter (λ y. x < y) p xs up.0, later)
    go false later = later

pub in_filter : (p : ℕ → Bool) (xs : List ℕ) (b : ℕ) → in_list (filter p xs) b ≡ (p b && in_list xs b)
in_filter p xs b = any-filter_same (λ y. y == b) p (p b) (λ k e. ap p (eqb-true k b e)) xs

pub has_all : (P : ℕ → Type 0) (xs : List ℕ) (x : ℕ) → AllByRecursion P xs → in_list xs x ≡ true → P x
has_all P [] x all h = absurd (true≢false (sym h))
has_all P (y ∷ ys) x all h = elim (cases_eq y x) [
  | inl e ↦ subst P e all.0
  | inr n ↦ has_all P ys x all.1 (sym (ap (λ z. z || in_list ys x) (ne_eqb y x n)) ∙ h)
]

in_first : (k : ℕ) (ks : List ℕ) → in_list (k ∷ ks) k ≡ true
in_first k ks = ap (λ z. z || in_list ks k) (eq-eqb k k refl)

in_later : (k q : ℕ) (ks : List ℕ) → in_list ks q ≡ true → in_list (k ∷ ks) q ≡ true
in_later k q ks h = ap (λ z. (k == q) || z) h ∙ or_yes (k == q)
  where
    or_yes : (z : Bool) → (z || true) ≡ true
    or_yes true = refl
    or_yes false = refl

pub all_in : (P : ℕ → Type 0) (ks : List ℕ) → ((k : ℕ) → in_list ks k ≡ true → P k) → AllByRecursion P ks
all_in P [] f = tt
all_in P (k ∷ ks) f = (f k (in_first k ks), all_in P ks (λ q h. f q (in_later k q ks h)))

-- ---- all numbers

above_from : (a b n : ℕ) → a < b → AllByRecursion (λ y. a < y) (count_from b n)
above_from a b zero low = tt
above_from a b (suc n) low = (low, above_from a (b + 1) n (omega (arith, low)))

count_ascends : (a n : ℕ) → IsAscending (count_from a n)
count_ascends a zero = tt
count_ascends a (suc n) = (above_from a (a + 1) n (omega arith), count_ascends (a + 1) n)

in_count : (a n p : ℕ) → a ≤ p → p < a + n → in_list (count_from a n) p ≡ true
in_count a zero p low high = absurd (omega (arith, low, high))
in_count a (suc n) p low high = elim (cases_eq a p) [
  | inl e ↦ ap (λ z. z || in_list (count_from (a + 1) n) p) (eq-eqb a p e)
  | inr apart ↦ ap (λ z. z || in_list (count_from (a + 1) n) p) (ne_eqb a p apart) ∙ in_count (a + 1) n p (omega (arith, low, apart)) (omega (arith, high))
]

counted : (a n p : ℕ) → in_list (count_from a n) p ≡ true → (a ≤ p) × (p < a + n)
counted a zero p h = absurd (true≢false (sym h))
counted a (suc n) p h = elim (cases_eq a p) [
  | inl e ↦ (omega (arith, e), omega (arith, e))
  | inr apart ↦
      let later = counted (a + 1) n p (sym (ap (λ z. z || in_list (count_from (a + 1) n) p) (ne_eqb a p apart)) ∙ h) in
      let low = later.0 in
      let high = later.1 in
      (omega (arith, low), omega (arith, high))
]

pub numbers_ascend : IsAscending all_numbers
unfolding all_numbers
numbers_ascend = count_ascends 1 9999

pub number_in : (p : ℕ) → IsNumber p → in_list all_numbers p ≡ true
unfolding all_numbers
number_in p number = let low = number.least in let high = number.most in in_count 1 9999 p low (omega (arith, high))

pub in_number : (p : ℕ) → in_list all_numbers p ≡ true → IsNumber p
unfolding all_numbers
in_number p there = let within = counted 1 9999 p there in record { least = within.0; most = (let high = within.1 in omega (arith, high)) }

-- ---- some of them

-- Those that pass a test are the members of any ascending list of numbers that has just those.
pub some_numbers : (test : ℕ → Bool) (xs : List ℕ) → IsAscending xs → AllByRecursion IsNumber xs → ((p : ℕ) → in_list xs p ≡ test p) → xs ≡ filter test all_numbers
some_numbers test xs up numbers same =
    same_ascending xs (filter test all_numbers) up (filter_ascends test all_numbers numbers_ascend) (λ p. same p ∙ go p (test p) refl ∙ sym (in_filter test all_numbers p))
  where
    go : (p : ℕ) (z : Bool) → test p ≡ z → test p ≡ (test p && in_list all_numbers p)
    go p true e = e ∙ sym (ap (λ z. z && in_list all_numbers p) e ∙ number_in p (has_all IsNumber xs p numbers (same p ∙ e)))
    go p false e = e ∙ sym (ap (λ z. z && in_list all_numbers p) e)

-- where only members pass, the members that pass are all numbers that pass
pub some_members : (test : ℕ → Bool) (ms : List ℕ) → IsAscending ms → AllByRecursion IsNumber ms → ((p : ℕ) → test p ≡ true → in_list ms p ≡ true) → filter test ms ≡ filter test all_numbers
some_members test ms up numbers members = some_numbers test (filter test ms) (filter_ascends test ms up) (all_filter IsNumber test ms numbers) (λ p. in_filter test ms p ∙ go p (test p) refl)
  where
    go : (p : ℕ) (z : Bool) → test p ≡ z → (z && in_list ms p) ≡ z
    go p true e = members p e
    go p false e = refl

-- ---- rows, number by number

-- those of whom there are none add none
only : {X : Type 0} (f : ℕ → List X) (p : ℕ → Bool) (xs : List ℕ) → ((a : ℕ) → p a ≡ false → f a ≡ []) → flat_map f xs ≡ flat_map f (filter p xs)
only f p [] none = refl
only f p (x ∷ xs) none = go (p x) refl (only f p xs none)
  where
    go : (z : Bool) → p x ≡ z → flat_map f xs ≡ flat_map f (filter p xs) → f x ++ flat_map f xs ≡ flat_map f (cond z (x ∷ filter p xs) (filter p xs))
    go true e later = ap (λ l. f x ++ l) later
    go false e later = ap (λ l. l ++ flat_map f xs) (none x e) ∙ later

-- So the rows of all numbers are those of the members, where no other has a row.
pub of_members : {X : Type 0} (f : ℕ → List X) (ms : List ℕ) → IsAscending ms → AllByRecursion IsNumber ms → ((a : ℕ) → in_list ms a ≡ false → f a ≡ []) → flat_map f ms ≡ flat_map f all_numbers
of_members f ms up numbers none =
    ap (flat_map f) (some_numbers (in_list ms) ms up numbers (λ p. refl)) ∙ sym (only f (in_list ms) all_numbers none)

-- no number passes a test that none passes
pub none_pass : (test : ℕ → Bool) → ((k : ℕ) → test k ≡ true → ⊥) → (xs : List ℕ) → filter test xs ≡ []
none_pass test none [] = refl
none_pass test none (x ∷ xs) = go (test x) refl (none_pass test none xs)
  where
    go : (z : Bool) → test x ≡ z → filter test xs ≡ [] → cond z (x ∷ filter test xs) (filter test xs) ≡ []
    go true e later = absurd (none x e)
    go false e later = later

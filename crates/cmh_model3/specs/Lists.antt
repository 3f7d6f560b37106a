-- Lists of numbers, and functions with a value changed.
use Rattle.std.specs.Prelude.{ℕ, ◌<◌, Bool, true, false, ◌&&◌, ◌||◌, List, [], ◌∷◌, ◌==◌, if◌then◌else◌, ltb}
use Rattle.std.specs.declared.cmp.Ordering.{Ordering}
use Rattle.std.specs.Ordering.{nat_cmp, on, then_cmp}
use Rattle.std.specs.List.{list_any, AllByRecursion}

abbrev pub in_list : List ℕ → ℕ → Bool
in_list ks k = list_any (λ q. q == k) ks

abbrev pub is_nonempty : List ℕ → Bool
is_nonempty [] = false
is_nonempty (k ∷ ks) = true

-- the ascending list with k in its place, and with each of ks
abbrev pub with_one : List ℕ → ℕ → List ℕ
with_one [] k = k ∷ []
with_one (q ∷ qs) k = if ltb k q then k ∷ q ∷ qs else q ∷ with_one qs k

abbrev pub with_each : List ℕ → List ℕ → List ℕ
with_each qs [] = qs
with_each qs (k ∷ ks) = with_one (with_each qs ks) k

-- the list without k, and without each of ks
abbrev pub without : List ℕ → ℕ → List ℕ
without [] k = []
without (q ∷ qs) k = if q == k then without qs k else q ∷ without qs k

abbrev pub without_all : List ℕ → List ℕ → List ℕ
without_all [] ks = []
without_all (q ∷ qs) ks = if in_list ks q then without_all qs ks else q ∷ without_all qs ks

abbrev pub IsAscending : List ℕ → Type 0
IsAscending [] = Unit {0}
IsAscending (x ∷ xs) = AllByRecursion (λ y. x < y) xs × IsAscending xs

-- the pair (n, i) comes before (m, k), first numbers first
abbrev pub is_before : ℕ → ℕ → ℕ → ℕ → Bool
is_before n i m k = ltb n m || ((n == m) && ltb i k)

-- pairs in order: by the first number, and then by the second
abbrev pub pair_cmp : ℕ × ℕ → ℕ × ℕ → Ordering
pair_cmp = then_cmp (on (λ (p : ℕ × ℕ). p.0) nat_cmp) (on (λ (p : ℕ × ℕ). p.1) nat_cmp)

-- the function with this value at a, and at a and b
abbrev pub set_at : {X : Type 0} → (ℕ → X) → ℕ → X → ℕ → X
set_at f a x p = if p == a then x else f p

abbrev pub set_pair : (ℕ → ℕ → Bool) → ℕ → ℕ → Bool → ℕ → ℕ → Bool
set_pair f a b x p q = if (p == a) && (q == b) then x else f p q

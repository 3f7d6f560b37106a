-- Whether a process is among some: the test, and what it says.
use Rattle.std.proofs.Common.{◌≡◌, ◌≢◌, ℕ, suc, zero, ◌+◌, ◌<◌, ◌≤◌, true, false, ◌||◌, List, [], ◌∷◌, ◌==◌, length, get_or, refl, sym, ap, subst, ◌∙◌, inl, inr, true≢false, arith, Contains}
use Rattle.std.specs.Prelude.{slice_index}
use Rattle.std.specs.List.{list_any, AllByRecursion}
use Rattle.std.specs.List.Sorted.{IsStrictlyIncreasing}
use Rattle.std.proofs.lemmas.List.Kept.{AllPairs-from_increasing}
use Rattle.std.proofs.lemmas.Bool.{cases_eq, eqb-true, eq-eqb, ne_eqb, or_cases, or_left, or_right}

-- what the test finds has a place
pub found_at : (xs : List ℕ) (k : ℕ) → list_any (λ q. q == k) xs ≡ true → Contains xs k
found_at [] k h = absurd (true≢false (sym h))
found_at (x ∷ xs) k h = elim (or_cases (x == k) (list_any (λ q. q == k) xs) h) [
  | inl e ↦ (0, omega arith, eqb-true x k e)
  | inr e ↦ let later = found_at xs k e in (suc later.0, let below : later.0 < length xs = later.1 in omega arith, later.2)
]

-- what has a place is found by the test
pub found_from : (xs : List ℕ) (k : ℕ) → Contains xs k → list_any (λ q. q == k) xs ≡ true
found_from xs k c = go xs c.0 c.1 c.2
  where
    go : (xs : List ℕ) (i : ℕ) → i < length xs → get_or xs i k ≡ k → list_any (λ q. q == k) xs ≡ true
    go [] i h e = absurd (omega arith)
    go (x ∷ xs) zero h e = or_left (x == k) (list_any (λ q. q == k) xs) (eq-eqb x k e)
    go (x ∷ xs) (suc i) h e = or_right (x == k) (list_any (λ q. q == k) xs) (go xs i (omega arith) e)

-- where each target is another process than the asker, the asker isn't found among them
pub none_is_asker : (P : ℕ → Type 0) (asker : ℕ) (targets : List ℕ) → AllByRecursion (λ k. P k × (k ≢ asker)) targets → list_any (λ k. k == asker) targets ≡ false
none_is_asker P asker [] all = refl
none_is_asker P asker (k ∷ targets) all = ap (λ b. b || list_any (λ q. q == asker) targets) (ne_eqb k asker all.0.1) ∙ none_is_asker P asker targets all.1

-- what holds at each place holds of all
pub all_from : (P : ℕ → Type 0) (xs : List ℕ) → ((k : ℕ) → k < length xs → P (get_or xs k 0)) → AllByRecursion P xs
all_from P [] each = tt
all_from P (x ∷ xs) each = (each 0 (omega arith), all_from P xs (λ k h. each (suc k) (omega arith)))

pub no_member : {X : Type 0} (x : X) → Contains [] x → ⊥
no_member x c = let none : c.0 < 0 = c.1 in absurd (omega (arith, none))

-- what comes after the first ascends too
pub increasing_tail : (x : ℕ) (xs : List ℕ) → IsStrictlyIncreasing (x ∷ xs) → IsStrictlyIncreasing xs
increasing_tail x xs up = λ k h. let e : suc k + 1 ≡ suc (k + 1) = omega arith in subst (λ m. slice_index xs k < slice_index (x ∷ xs) m) e (up (suc k) (omega arith))

pub not_decreasing : (xs : List ℕ) → IsStrictlyIncreasing xs → (i j : ℕ) → i ≤ j → j < length xs → get_or xs i 0 ≤ get_or xs j 0
not_decreasing xs up i j le inside = elim (cases_eq i j) [
  | inl e ↦ let same = ap (λ k. get_or xs k 0) e in omega arith
  | inr n ↦ let less = AllPairs-from_increasing xs up i j 0 (omega arith) inside in omega arith
]

-- Lists of numbers that ascend, by neighbours.
use Rattle.std.proofs.Common.{◌≡◌, ◌↔◌, ℕ, suc, zero, ◌+◌, ◌<◌, nat_lt, Bool, true, false, List, [], ◌∷◌, length, get_or, arith, sym, refl, subst, true≢false, ◌∙◌, IsTrue, ltb-true, lt-ltb}
use Rattle.std.specs.List.{AllByRecursion, IsAllAdjacentAnswer}
use Rattle.std.specs.List.Sorted.{IsStrictlyIncreasing}
use Rattle.cmh_frames.specs.Rules.{IsAscending}
use Rattle.cmh_frames.proofs.Members.{increasing_tail}

-- each number is below the next
ascending_at : (xs : List ℕ) (k d : ℕ) → IsAscending xs → suc k < length xs → get_or xs k d < get_or xs (suc k) d
ascending_at [] k d up h = absurd (omega arith)
ascending_at (x ∷ []) k d up h = absurd (omega arith)
ascending_at (x ∷ y ∷ xs) zero d up h = up.0.0
ascending_at (x ∷ y ∷ xs) (suc k) d up h = ascending_at (y ∷ xs) k d up.1 (omega arith)

all_above : (x y : ℕ) → x < y → (xs : List ℕ) → AllByRecursion (λ z. y < z) xs → AllByRecursion (λ z. x < z) xs
all_above x y h [] all = tt
all_above x y h (z ∷ xs) all = (let above : y < z = all.0 in omega arith, all_above x y h xs all.1)

ascending_from : (xs : List ℕ) → ((k : ℕ) → suc k < length xs → get_or xs k 0 < get_or xs (suc k) 0) → IsAscending xs
ascending_from [] next = tt
ascending_from (x ∷ []) next = (tt, tt)
ascending_from (x ∷ y ∷ xs) next =
    let later = ascending_from (y ∷ xs) (λ k h. next (suc k) (omega arith)) in
    let first : x < y = next 0 (omega arith) in
    ((first, all_above x y first xs later.0), later)

-- what a test of each number and the next says, whether the first is less
pub ascending_where : (xs : List ℕ) (r : Bool) → IsAllAdjacentAnswer (λ x y b. b ≡ nat_lt x y) xs r → IsTrue r ↔ IsAscending xs
ascending_where xs true h = (
  λ _. ascending_from xs (λ k l. let next : k + 1 ≡ suc k = omega arith in ltb-true _ _ (subst (λ i. nat_lt (get_or xs k 0) (get_or xs i 0) ≡ true) next (sym (h k 0 (omega arith))))),
  λ _. refl,
)
ascending_where xs false h = (
  λ e. absurd (true≢false (sym e)),
  λ up.
      let next : suc h.0 ≡ h.0 + 1 = omega arith in
      let inside : h.0 + 1 < length xs = h.1 in
      let below = subst (λ i. get_or xs h.0 0 < get_or xs i 0) next (ascending_at xs h.0 0 up (omega arith)) in
      absurd (true≢false (sym (lt-ltb _ _ below) ∙ sym (h.2 0))),
)

-- ---- the same of lists that strictly increase

-- all that follow are greater
pub head_below : (x : ℕ) (xs : List ℕ) → IsStrictlyIncreasing (x ∷ xs) → AllByRecursion (λ y. x < y) xs
head_below x [] up = tt
head_below x (y ∷ ys) up =
    let first : x < y = up 0 (omega arith) in
    (first, all_above x y first ys (head_below y ys (increasing_tail x (y ∷ ys) up)))

pub ascending_increasing : (xs : List ℕ) → IsStrictlyIncreasing xs → IsAscending xs
ascending_increasing [] up = tt
ascending_increasing (x ∷ xs) up = (head_below x xs up, ascending_increasing xs (increasing_tail x xs up))

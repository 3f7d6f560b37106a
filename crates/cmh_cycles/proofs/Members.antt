-- Members of lists that grow by one.
use Rattle.std.proofs.Common.{◌≡◌, ℕ, zero, suc, ◌+◌, ◌<◌, ◌≤◌, List, [], ◌∷◌, ◌++◌, length, take, take_all, get_or, ◌⊎◌, inl, inr, ⊎_elim, sym, ap, subst, refl, ◌∙◌, arith, length-append}
use Rattle.std.specs.Prelude.{Contains}
use Rattle.std.proofs.lemmas.List.{get_or_append_left, take_more}

pub contains_left : {X : Type 0} (xs ys : List X) (k : X) → Contains xs k → Contains (xs ++ ys) k
contains_left xs ys k c = (c.0, let l = c.1 in let n = length-append xs ys in omega (arith, l, n), get_or_append_left xs ys k c.0 c.1 ∙ c.2)

pub contains_last : {X : Type 0} (xs : List X) (k : X) → Contains (xs ++ k ∷ []) k
contains_last [] k = (0, omega arith, refl)
contains_last (x ∷ xs) k = let c = contains_last xs k in (suc c.0, let l = c.1 in omega (arith, l), c.2)

pub contains_push : {X : Type 0} (xs : List X) (x k : X) → Contains (xs ++ x ∷ []) k → Contains xs k ⊎ (k ≡ x)
contains_push {X = X} [] x k c = go c.0 c.1 c.2
  where
    go : (q : ℕ) → q < length (x ∷ []) → get_or (x ∷ []) q k ≡ k → Contains [] k ⊎ (k ≡ x)
    go zero l e = inr (sym e)
    go (suc q) l e = absurd (omega arith)
contains_push {X = X} (y ∷ ys) x k c = go c.0 c.1 c.2 (λ d. contains_push ys x k d)
  where
    go : (q : ℕ) → q < length ((y ∷ ys) ++ x ∷ []) → get_or ((y ∷ ys) ++ x ∷ []) q k ≡ k → (Contains (ys ++ x ∷ []) k → Contains ys k ⊎ (k ≡ x)) → Contains (y ∷ ys) k ⊎ (k ≡ x)
    go zero l e more = inl (0, omega arith, e)
    go (suc q) l e more = ⊎_elim (λ d. inl (suc d.0, let m = d.1 in omega (arith, m), d.2)) (λ f. inr f) (more (q, omega arith, e))

-- a member that isn't the first is one of the rest
pub contains_rest : {X : Type 0} (x y : X) (ys : List X) → (y ≡ x → ⊥) → Contains (y ∷ ys) x → Contains ys x
contains_rest {X = X} x y ys ne c = go c.0 c.1 c.2
  where
    go : (k : ℕ) → k < length (y ∷ ys) → get_or (y ∷ ys) k x ≡ x → Contains ys x
    go zero l e = absurd (ne e)
    go (suc k) l e = (k, omega arith, e)

-- one more member of a list is looked at
module _ {X : Type 0} (xs : List X) (i : ℕ) (x : X) (l : i < length xs) (here : x ≡ get_or xs i x) where
  taken : take (i + 1) xs ≡ take i xs ++ x ∷ []
  taken = take_more xs i x l ∙ ap (λ y. take i xs ++ y ∷ []) (sym here)

  pub looked_at : (k : X) → Contains (take (i + 1) xs) k → Contains (take i xs) k ⊎ (k ≡ x)
  looked_at k c = contains_push (take i xs) x k (subst (λ ys. Contains ys k) taken c)

  pub looked_before : (k : X) → Contains (take i xs) k → Contains (take (i + 1) xs) k
  looked_before k c = subst (λ ys. Contains ys k) (sym taken) (contains_left (take i xs) (x ∷ []) k c)

  pub looked_now : Contains (take (i + 1) xs) x
  looked_now = subst (λ ys. Contains ys x) (sym taken) (contains_last (take i xs) x)

-- all members were looked at
pub looked_all : {X : Type 0} (xs : List X) (i : ℕ) (k : X) → length xs ≤ i → Contains xs k → Contains (take i xs) k
looked_all xs i k past c = subst (λ ys. Contains ys k) (sym (take_all i xs past)) c

pub looked_within : {X : Type 0} (xs : List X) (i : ℕ) (k : X) → length xs ≤ i → Contains (take i xs) k → Contains xs k
looked_within xs i k past c = subst (λ ys. Contains ys k) (take_all i xs past) c

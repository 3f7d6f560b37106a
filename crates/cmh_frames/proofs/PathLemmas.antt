-- Paths, piece by piece.
use Rattle.std.proofs.Common.{ℕ, List, [], ◌∷◌, ◌++◌, refl, sym, subst}
use Rattle.cmh_frames.specs.Paths.{IsPath, WaitsAmong}
use Rattle.cmh_frames.specs.Relation.{Relation}

-- one or more waits lead from p to q
abbrev pub LeadsTo : (ℕ → ℕ → Type 0) → ℕ → ℕ → Type 0
LeadsTo R p q = (next : ℕ) × (members : List ℕ) × R p next × IsPath R next members q

-- a path in R is one in a greater S
pub path_map : (R S : ℕ → ℕ → Type 0) → ((p q : ℕ) → R p q → S p q) → (p : ℕ) (members : List ℕ) (q : ℕ) → IsPath R p members q → IsPath S p members q
path_map R S f p [] q h = h
path_map R S f p (x ∷ xs) q h = (f p x h.0, path_map R S f x xs q h.1)

-- two paths, one after the other
pub path_join : (R : ℕ → ℕ → Type 0) (p : ℕ) (xs : List ℕ) (q : ℕ) (ys : List ℕ) (r : ℕ) → IsPath R p xs q → IsPath R q ys r → IsPath R p (xs ++ ys) r
path_join R p [] q ys r h g = subst (λ z. IsPath R z ys r) (sym h) g
path_join R p (x ∷ xs) q ys r h g = (h.0, path_join R x xs q ys r h.1 g)

-- no or more waits and then one more
pub leads_on : (R : ℕ → ℕ → Type 0) (p : ℕ) (xs : List ℕ) (q r : ℕ) → IsPath R p xs q → R q r → LeadsTo R p r
leads_on R p [] q r h g = (r, [], subst (λ z. R z r) (sym h) g, refl)
leads_on R p (x ∷ xs) q r h g = (x, xs ++ r ∷ [], h.0, path_join R x xs q (r ∷ []) r h.1 (g, refl))

-- one or more waits and then no or more
pub leads_further : (R : ℕ → ℕ → Type 0) (p q : ℕ) (ys : List ℕ) (r : ℕ) → LeadsTo R p q → IsPath R q ys r → LeadsTo R p r
leads_further R p q ys r h g = (h.0, h.1 ++ ys, h.2, path_join R h.0 h.1 q ys r h.3 g)

-- a path among some processes that begins there ends there
pub path_ends_here : (Here : ℕ → Type 0) (waits : Relation) (p : ℕ) (members : List ℕ) (q : ℕ) → Here p → IsPath (WaitsAmong Here waits) p members q → Here q
path_ends_here Here waits p [] q here h = subst Here h here
path_ends_here Here waits p (x ∷ xs) q here h = path_ends_here Here waits x xs q h.0.1 h.1

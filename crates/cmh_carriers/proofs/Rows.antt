-- Rows of links, looked up and changed.
use Rattle.std.proofs.Common.{◌≡◌, ◌≢◌, ℕ, zero, suc, ◌==◌, Bool, true, false, List, [], ◌∷◌, ◌++◌, get_or, set, Option, Some, None, refl, ap, sym, ◌∙◌, arith, ◌||◌, true≢false}
use Rattle.std.specs.Prelude.{if◌then◌else◌}
use Rattle.std.specs.List.{list_any}
use Rattle.std.proofs.Math.Bool.{or-false}
use Rattle.std.proofs.lemmas.Bool.{eq-eqb, ne_eqb, eqb-true, eqb-false}
use Rattle.cmh_carriers.specs.declared.table.LinkState.{LinkState}
use Rattle.cmh_carriers.specs.Table.{state_at, IsPlace, AllFresh}
use Rattle.cmh_carriers.specs.declared.table.LinkState.TheVariants.{Fresh}

-- the front row is of the site, or not
front_here : (r : ℕ × LinkState) (rs : List (ℕ × LinkState)) (s : ℕ) → r.0 ≡ s → state_at (r ∷ rs) s ≡ Some r.1
front_here r rs s e = ap (λ b. if b then Some r.1 else state_at rs s) (eq-eqb r.0 s e)

front_other : (r : ℕ × LinkState) (rs : List (ℕ × LinkState)) (s : ℕ) → r.0 ≢ s → state_at (r ∷ rs) s ≡ state_at rs s
front_other r rs s e = ap (λ b. if b then Some r.1 else state_at rs s) (ne_eqb r.0 s e)

-- a site without a row has no state
pub none_there : (rows : List (ℕ × LinkState)) (s : ℕ) → IsPlace rows s None → state_at rows s ≡ None
none_there [] s h = refl
none_there (r ∷ rs) s h = front_other r rs s (h 0 r (omega arith)) ∙ none_there rs s (λ k d lt. h (suc k) d (omega arith))

-- the state in the site's first row
pub state_there : (rows : List (ℕ × LinkState)) (s place : ℕ) (d : ℕ × LinkState) → IsPlace rows s (Some place) → state_at rows s ≡ Some (get_or rows place d).1
state_there [] s place d h = absurd (omega (arith, h.0))
state_there (r ∷ rs) s zero d h = front_here r rs s (h.1 d)
state_there (r ∷ rs) s (suc place) d h = front_other r rs s (h.2 0 r (omega arith)) ∙ state_there rs s place d (omega (arith, h.0), h.1, λ k e lt. h.2 (suc k) e (omega arith))

-- another state in the site's first row
pub set_here : (rows : List (ℕ × LinkState)) (s place : ℕ) (x : LinkState) → IsPlace rows s (Some place) → state_at (set rows place (s, x)) s ≡ Some x
set_here [] s place x h = absurd (omega (arith, h.0))
set_here (r ∷ rs) s zero x h = front_here (s, x) rs s refl
set_here (r ∷ rs) s (suc place) x h = front_other r (set rs place (s, x)) s (h.2 0 r (omega arith)) ∙ set_here rs s place x (omega (arith, h.0), h.1, λ k e lt. h.2 (suc k) e (omega arith))

-- which changes no other site's
pub set_others : (rows : List (ℕ × LinkState)) (s place : ℕ) (x : LinkState) → IsPlace rows s (Some place) → (u : ℕ) → u ≢ s → state_at (set rows place (s, x)) u ≡ state_at rows u
set_others [] s place x h u ne = absurd (omega (arith, h.0))
set_others (r ∷ rs) s zero x h u ne = front_other (s, x) rs u (λ e. ne (sym e)) ∙ sym (front_other r rs u (λ e. ne (sym e ∙ h.1 r)))
set_others (r ∷ rs) s (suc place) x h u ne = ap (λ o. if r.0 == u then Some r.1 else o) (set_others rs s place x (omega (arith, h.0), h.1, λ k e lt. h.2 (suc k) e (omega arith)) u ne)

-- the first of two that is there
abbrev pub or_else : Option LinkState → Option LinkState → Option LinkState
or_else None other = other
or_else (Some x) other = Some x

-- one more row at the end
state_snoc : (rows : List (ℕ × LinkState)) (r : ℕ × LinkState) (s : ℕ) → state_at (rows ++ r ∷ []) s ≡ or_else (state_at rows s) (if r.0 == s then Some r.1 else None)
state_snoc [] r s = refl
state_snoc (q ∷ rs) r s = go (q.0 == s) (state_snoc rs r s)
  where
    go : (b : Bool) → state_at (rs ++ r ∷ []) s ≡ or_else (state_at rs s) (if r.0 == s then Some r.1 else None)
        → (if b then Some q.1 else state_at (rs ++ r ∷ []) s) ≡ or_else (if b then Some q.1 else state_at rs s) (if r.0 == s then Some r.1 else None)
    go true e = refl
    go false e = e

abbrev expected : Bool → Bool → Option LinkState
expected own known = if own then None else (if known then Some Fresh else None)

more_cases : (own known here : Bool) → (own ≡ true → here ≡ false) → or_else (expected own known) (if here then Some Fresh else None) ≡ expected own (known || here)
more_cases true known true h = absurd (true≢false (h refl))
more_cases true known false h = refl
more_cases false true here h = refl
more_cases false false here h = refl

same_cases : (own known here : Bool) → (own ≡ false → here ≡ false) → expected own known ≡ expected own (known || here)
same_cases true known here h = refl
same_cases false known true h = absurd (true≢false (h refl))
same_cases false true false h = refl
same_cases false false false h = refl

known_snoc : (sites : List ℕ) (x s : ℕ) → list_any (λ t. t == s) (sites ++ x ∷ []) ≡ list_any (λ t. t == s) sites || (x == s)
known_snoc [] x s = or-false (x == s)
known_snoc (y ∷ ys) x s = ap (λ b. (y == s) || b) (known_snoc ys x s) ∙ assoc (y == s) (list_any (λ t. t == s) ys) (x == s)
  where
    assoc : (a b c : Bool) → (a || (b || c)) ≡ ((a || b) || c)
    assoc true b c = refl
    assoc false b c = refl

-- one site more, and its row unless it is the own one
pub fresh_next : (sites : List ℕ) (own : ℕ) (rows rows' : List (ℕ × LinkState)) (x : ℕ) → rows' ≡ (if x == own then rows else rows ++ (x, Fresh) ∷ []) → AllFresh sites own rows → AllFresh (sites ++ x ∷ []) own rows'
fresh_next sites own rows rows' x e h s = ap (λ (rs : List (ℕ × LinkState)). state_at rs s) e ∙ go (x == own) refl ∙ ap (λ b. expected (s == own) b) (sym (known_snoc sites x s))
  where
    go : (b : Bool) → (x == own) ≡ b → state_at (if b then rows else rows ++ (x, Fresh) ∷ []) s ≡ expected (s == own) (list_any (λ t. t == s) sites || (x == s))
    go true q = h s ∙ same_cases (s == own) (list_any (λ t. t == s) sites) (x == s) (λ p. ne_eqb x s (λ z. eqb-false s own p (sym z ∙ eqb-true x own q)))
    go false q = state_snoc rows (x, Fresh) s ∙ ap (λ o. or_else o (if x == s then Some Fresh else None)) (h s)
        ∙ more_cases (s == own) (list_any (λ t. t == s) sites) (x == s) (λ p. ne_eqb x s (λ z. eqb-false x own q (z ∙ eqb-true s own p)))

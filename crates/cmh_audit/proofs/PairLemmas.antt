-- Pairs are compared by their parts.
use Rattle.std.proofs.Common.{◌≡◌, ℕ, ◌&&◌, ◌==◌, true, sym, ap, refl, ◌∙◌, ⊎_elim, arith, Ordering, Less, Equal, Greater}
use Rattle.std.specs.Ordering.{nat_cmp, is_eq, ordering_then}
use Rattle.std.specs.Cmp.{nat_cmp_is}
use Rattle.std.proofs.lemmas.Bool.{cases_order, eq-eqb, ne_eqb, and_parts, eqb-true}

pub is_eq-nat_cmp : (a b : ℕ) → is_eq (nat_cmp a b) ≡ (a == b)
is_eq-nat_cmp a b =
    ⊎_elim
    (λ e. ap is_eq (sym (nat_cmp_is a b Equal e)) ∙ sym (eq-eqb a b e))
    (λ ne. ⊎_elim
    (λ l. let apart : a ≡ b → ⊥ = omega arith in ap is_eq (sym (nat_cmp_is a b Less l)) ∙ sym (ne_eqb a b apart))
    (λ g. let apart : a ≡ b → ⊥ = omega arith in ap is_eq (sym (nat_cmp_is a b Greater g)) ∙ sym (ne_eqb a b apart))
    ne)
    (cases_order a b)

pub is_eq-then : (x y : Ordering) → is_eq (ordering_then x y) ≡ (is_eq x && is_eq y)
is_eq-then Less y = refl
is_eq-then Equal y = refl
is_eq-then Greater y = refl

pub and_eq : (x y a b : ℕ) → ((x == a) && (y == b)) ≡ true → (x ≡ a) × (y ≡ b)
and_eq x y a b h = let both = and_parts (x == a) (y == b) h in (eqb-true x a both.0, eqb-true y b both.1)

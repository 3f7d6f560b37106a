-- The links that are cut.
use Rattle.std.proofs.Common.{◌≡◌, ℕ, Bool, cond, ◌&&◌, ◌||◌, ◌==◌, true, false, List, refl, sym, ap, nat_cmp, Ordering}
use Rattle.std.specs.List.{list_any}
use Rattle.std.specs.Ordering.{ordering_then, is_eq}
use Rattle.std.specs.Cmp.{both_tied, unsigned_tied}
use Rattle.cmh_play3.specs.declared.links.Ends.{Ends}

abbrev pub ends_cmp : Ends → Ends → Ordering
ends_cmp x y = ordering_then (nat_cmp x.from y.from) (nat_cmp x.to y.to)

abbrev pub goes : ℕ → ℕ → Ends → Bool
goes a b ends = (a == ends.from) && (b == ends.to)

pub is_eq-ends_cmp : (x y : Ends) → is_eq (ends_cmp x y) ≡ goes x.from x.to y
is_eq-ends_cmp x y =
    sym (both_tied (x.from == y.from) (x.to == y.to) (nat_cmp x.from y.from) (nat_cmp x.to y.to) (sym (unsigned_tied x.from y.from)) (sym (unsigned_tied x.to y.to)))

abbrev pub ends_of : ℕ → ℕ → Ends
ends_of a b = record { from = a; to = b }

-- whether the link is among those that are cut
pub among : (cut : List Ends) (a b : ℕ) → list_any (λ y. is_eq (ends_cmp (ends_of a b) y)) cut ≡ list_any (goes a b) cut
among cut a b = ap (λ (test : Ends → Bool). list_any test cut) (λ i y. is_eq-ends_cmp (ends_of a b) y i)

pub cond_or : (x y : Bool) → cond x true y ≡ (x || y)
cond_or true y = refl
cond_or false y = refl

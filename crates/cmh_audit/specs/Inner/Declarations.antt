-- The processes that entries declare, as a set.
use Rattle.std.specs.Prelude.{◌≡◌, ℕ, zero, suc, Bool, true, false, ◌||◌}
use Rattle.std.specs.Ordering.{nat_cmp}
use Rattle.std.specs.BTreeSet.{BTreeSet, contains}

abbrev pub is_positive : ℕ → Bool
is_positive zero = false
is_positive (suc n) = true

-- the new set has what the old one has, and each i with a count above 0
abbrev pub Adds : BTreeSet ℕ → BTreeSet ℕ → (ℕ → ℕ) → Type 0
Adds old new f = (i : ℕ) → contains nat_cmp new i ≡ (contains nat_cmp old i || is_positive (f i))

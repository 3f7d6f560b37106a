-- What bits at the places of members say, on the way to a member's reach.
use Rattle.std.specs.Prelude.{◌≡◌, ℕ, ◌↔◌, true, List, Contains}
use Rattle.std.specs.List.Sorted.{IsStrictlyIncreasing}
use Rattle.cmh_waits.specs.Held.{Held}
use Rattle.cmh_bits.specs.Bits.{is_set}
use Rattle.cmh_waits.specs.Rows.{joins}
use Rattle.cmh_dependents.specs.Marks.{IsMarked}

-- the list has the members with a 1, ascending
pub record AreThose (members : List ℕ) (row : ℕ) (marked : List ℕ) : Type 0 where
  pub ascending : IsStrictlyIncreasing marked
  pub all : (q : ℕ) → Contains marked q ↔ IsMarked members row q

-- the members with a 1 in the second row are those for which one with a 1 in the first waits
abbrev pub AreAwaited : Held → ℕ → ℕ → Type 0
AreAwaited v reached awaited =
    (k : ℕ) → (is_set awaited k ≡ true) ↔ ((a : ℕ) × (is_set reached a ≡ true) × (joins v.members v.waits a k ≡ true))

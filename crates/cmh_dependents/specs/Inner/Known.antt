-- For each of some processes a list of those who are known to depend on it.
use Rattle.std.specs.Prelude.{◌≡◌, ℕ, true, List, [], length, slice_index_or}
use Rattle.std.specs.FinSet as set
use Rattle.std.specs.List.Sorted.{IsStrictlyIncreasing}
use Rattle.cmh_frames.specs.Relation.{Relation, has}
use Rattle.cmh_waits.specs.Rows.{is_in, pairs_of, place_in}

-- each process with those in the list at its place
abbrev pub known_of : List ℕ → List (List ℕ) → Relation
known_of ps lists = set.from_list (pairs_of ps (λ p. slice_index_or lists (place_in ps p) []))

-- the processes ascend, and each has a list
pub record AreKnown (ps : List ℕ) (lists : List (List ℕ)) : Type 0 where
  pub ascending : IsStrictlyIncreasing ps
  pub len : length lists ≡ length ps

-- each process on whom another is known to depend is among them
abbrev pub Marks : List ℕ → Relation → Type 0
Marks marked r = (x y : ℕ) → has r x y ≡ true → is_in marked x ≡ true

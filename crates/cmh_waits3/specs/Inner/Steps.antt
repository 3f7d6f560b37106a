-- The waits between the processes of a site that count for an ask, as steps from process to process.
use Rattle.std.specs.Prelude.{◌≡◌, ℕ, ◌/◌, ◌%◌, ◌<◌, ◌↔◌, Bool, true, false, ◌&&◌, ◌==◌, List, Contains, length, nat_lt, slice_index, slice_index_or}
use Rattle.std.specs.Int.{bit_at}
use Rattle.std.specs.List.Sorted.{IsStrictlySortedBy}
use Rattle.cmh_model3.specs.Lists.{in_list, pair_cmp}
use Rattle.cmh_model3.specs.State.{counts}
use Rattle.cmh_model3.specs.Paths.{IsPath}
use Rattle.cmh_waits3.specs.Held.{Held, is_member, state_of, waits_of}

-- whether the number has a 1 at the place
abbrev pub is_set : ℕ → ℕ → Bool
is_set n k = bit_at n k == 1

-- whether the words have the place: the bit k % 64 of the word k / 64 stands for the place k
abbrev pub has_place : List ℕ → ℕ → Bool
has_place words k = is_set (slice_index_or words (k / 64) 0) (k % 64)

-- the wait of p for the member q counts for the ask of i with stamp n
abbrev pub IsStep : Held → ℕ → ℕ → ℕ → ℕ → Type 0
IsStep v n i p q = (counts (state_of v) n i p q ≡ true) × (is_member v q ≡ true)

-- whether such a wait leads from the member at the place a to that at b
abbrev pub leads : Held → ℕ → ℕ → ℕ → ℕ → Bool
leads v n i a b = nat_lt b (length v.members) && counts (state_of v) n i (slice_index v.members a) (slice_index v.members b)

-- all waits of the site's processes count
abbrev pub DoAllCount : Held → ℕ → ℕ → Type 0
DoAllCount v n i =
    (place k : ℕ) → place < length v.members → in_list (waits_of v (slice_index v.members place)) k ≡ true
    → counts (state_of v) n i (slice_index v.members place) k ≡ true

-- the places of the members to which paths of such waits lead from the process
abbrev pub AreReached : Held → ℕ → ℕ → ℕ → List ℕ → Type 0
AreReached v n i from reached =
    (k : ℕ) → (has_place reached k ≡ true)
    ↔ ((k < length v.members) × ((path : List ℕ) × IsPath (IsStep v n i) from path (slice_index v.members k)))

-- the places to which such a wait leads from one of these
abbrev pub AreAwaited : Held → ℕ → ℕ → List ℕ → List ℕ → Type 0
AreAwaited v n i reached awaited =
    (k : ℕ) → (has_place awaited k ≡ true) ↔ ((a : ℕ) × (has_place reached a ≡ true) × (leads v n i a k ≡ true))

-- the waits of p for processes of other sites that count, ascending
pub record AreEdgesAt (v : Held) (n i p : ℕ) (edges : List (ℕ × ℕ)) : Type 0 where
  pub ascending : IsStrictlySortedBy pair_cmp edges
  pub all : (edge : ℕ × ℕ) → Contains edges edge
      ↔ ((edge.0 ≡ p) × (counts (state_of v) n i p edge.1 ≡ true) × (is_member v edge.1 ≡ false))

-- those of the members at these places
pub record AreMarkedEdges (v : Held) (n i : ℕ) (marked : List ℕ) (edges : List (ℕ × ℕ)) : Type 0 where
  pub ascending : IsStrictlySortedBy pair_cmp edges
  pub all : (edge : ℕ × ℕ) → Contains edges edge
      ↔ ((k : ℕ) × (k < length v.members) × (has_place marked k ≡ true) × (edge.0 ≡ slice_index v.members k)
      × (counts (state_of v) n i edge.0 edge.1 ≡ true) × (is_member v edge.1 ≡ false))

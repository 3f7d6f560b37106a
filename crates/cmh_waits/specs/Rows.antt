-- Rows of bits and lists of processes, one for each member, as the relation that they stand for.
use Rattle.std.specs.Prelude.{◌≡◌, ℕ, ◌<◌, Bool, true, false, ◌&&◌, List, [], ◌∷◌, ◌++◌, ◌==◌}
use Rattle.std.specs.Prelude.{map, filter, length, nat_lt, slice_index, slice_index_or}
use Rattle.std.specs.List.{list_any, position_or_len}
use Rattle.std.specs.FinSet as set
use Rattle.cmh_bits.specs.Bits.{is_set}
use Rattle.cmh_frames.specs.Relation.{Relation, has}
use Rattle.cmh_waits.specs.Held.{Held, IsKept}

-- whether the row at the place a has a 1 at b
abbrev pub bit_of : List ℕ → ℕ → ℕ → Bool
bit_of rows a b = is_set (slice_index_or rows a 0) b

-- whether the process is in the list
abbrev pub is_in : List ℕ → ℕ → Bool
is_in ms p = list_any (λ q. q == p) ms

-- where the process stands among the members
abbrev pub place_in : List ℕ → ℕ → ℕ
place_in ms p = position_or_len (λ q. q == p) ms

-- whether the member at this place is in the list
abbrev pub is_at_in : List ℕ → List ℕ → ℕ → Bool
is_at_in ms ks k = nat_lt k (length ms) && is_in ks (slice_index ms k)

-- whether the members at two places are a pair of the relation; no member is at a place after the last
abbrev pub joins : List ℕ → Relation → ℕ → ℕ → Bool
joins ms r a b = (nat_lt a (length ms) && nat_lt b (length ms)) && has r (slice_index ms a) (slice_index ms b)

-- each of the numbers, paired with what it is given
abbrev pub pairs_of : List ℕ → (ℕ → List ℕ) → List (ℕ × ℕ)
pairs_of [] seconds = []
pairs_of (x ∷ xs) seconds = map (λ y. (x, y)) (seconds x) ++ pairs_of xs seconds

-- with what the rows pair a member: the members at the places of its bits, and the others of its list
abbrev pub seconds_in : List ℕ → List ℕ → List (List ℕ) → ℕ → List ℕ
seconds_in ms rows lists x =
    filter (λ y. bit_of rows (place_in ms x) (place_in ms y)) ms ++ slice_index_or lists (place_in ms x) []

-- the relation of the rows and lists of the members
abbrev pub relation_of : List ℕ → List ℕ → List (List ℕ) → Relation
relation_of ms rows lists = set.from_list (pairs_of ms (seconds_in ms rows lists))

-- what the rows and lists of waits and of owed replies say of the members
abbrev pub held_of : List ℕ → List ℕ → List (List ℕ) → List ℕ → List (List ℕ) → Held
held_of ms waits remote_waits owed remote_owed = record {
  members = ms;
  waits = relation_of ms waits remote_waits;
  owed = relation_of ms owed remote_owed;
}

-- a row and a list for each member; a 1 stands at the place of a member, and a list has others alone
pub record AreRows (ms rows : List ℕ) (lists : List (List ℕ)) : Type 0 where
  pub rows_len : length rows ≡ length ms
  pub lists_len : length lists ≡ length ms
  pub inside : (a b : ℕ) → bit_of rows a b ≡ true → b < length ms
  pub elsewhere : (a p : ℕ) → is_in (slice_index_or lists a []) p ≡ true → is_in ms p ≡ false

-- both are rows and lists of the members, and what they say is kept
abbrev pub AreKept : List ℕ → List ℕ → List (List ℕ) → List ℕ → List (List ℕ) → Type 0
AreKept ms waits remote_waits owed remote_owed =
    AreRows ms waits remote_waits × AreRows ms owed remote_owed
    × IsKept (held_of ms waits remote_waits owed remote_owed)

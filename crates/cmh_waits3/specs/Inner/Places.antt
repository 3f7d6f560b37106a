-- Where the processes of a site stand.
use Rattle.std.specs.Prelude.{◌≡◌, ℕ, ◌<◌, ◌≤◌, List, length, slice_index, slice_index_or}
use Rattle.std.specs.List.Sorted.{IsStrictlyIncreasing}

-- the members ascend, and at the number of each stands its place
pub record ArePlaced (ms places : List ℕ) : Type 0 where
  pub ascending : IsStrictlyIncreasing ms
  pub few : length ms ≤ 256
  pub long : (i : ℕ) → i < length ms → slice_index ms i < length places
  pub placed : (i : ℕ) → i < length ms → slice_index_or places (slice_index ms i) 0 ≡ i

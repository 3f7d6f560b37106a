-- Where the members of a site stand.
use Rattle.std.specs.Prelude.{◌≡◌, ℕ, ◌<◌, ◌≤◌, List, length, slice_index, slice_index_or}

-- at the number of each of the members, of whom there are few, stands its place
pub record ArePlaced (ms places : List ℕ) : Type 0 where
  pub few : length ms ≤ 64
  pub placed : (i : ℕ) → i < length ms → slice_index_or places (slice_index ms i) 255 ≡ i

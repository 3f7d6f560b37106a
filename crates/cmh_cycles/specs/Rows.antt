-- Tables of rows, whose words have a bit for each place.
use Rattle.std.specs.Prelude.{◌≡◌, ℕ, ◌<◌, ◌≤◌, ◌↔◌, true, List, [], length, slice_index, slice_index_or}
use Rattle.cmh_bits.specs.Bits.{has_number}

-- a row of a table; the one without a place where the table ends before
abbrev pub row_at : List (List ℕ) → ℕ → List ℕ
row_at rows k = slice_index_or rows k []

-- n rows of so many words, in which each place has those that are related to it
pub record IsTable (rows : List (List ℕ)) (n words : ℕ) (Related : ℕ → ℕ → Type 0) : Type 0 where
  pub long : length rows ≡ n
  pub wide : (a : ℕ) → a < n → length (row_at rows a) ≡ words
  pub are : (a b : ℕ) → has_number (row_at rows a) b ≡ true ↔ Related a b

-- at each place of a table a place with the same row: a lower one, or its own
pub record AreTwins (table : List (List ℕ)) (twins : List ℕ) : Type 0 where
  pub long : length twins ≡ length table
  pub back : (k : ℕ) → k < length table → slice_index twins k ≤ k
  pub same : (k : ℕ) → k < length table → row_at table (slice_index twins k) ≡ row_at table k

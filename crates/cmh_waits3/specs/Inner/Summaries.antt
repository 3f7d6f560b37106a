-- What a search needs of the rows.
use Rattle.std.specs.Prelude.{◌≡◌, ℕ, ◌<◌, ◌≤◌, ◌&&◌, true, false, List, [], length, nat_lt, slice_index, slice_index_or}
use Rattle.cmh_model3.specs.Lists.{in_list, is_before}
use Rattle.cmh_waits3.specs.declared.summary.Summary.{Summary}
use Rattle.cmh_waits3.specs.declared.wait.Wait.{Wait}
use Rattle.cmh_waits3.specs.Inner.Steps.{has_place}
use Rattle.cmh_waits3.specs.Rows.{since_in, targets_of}

-- the places of the members that are waited for, and two stamps between which those of all waits are
pub record IsSummary (ms : List ℕ) (row : List Wait) (summary : Summary) : Type 0 where
  pub here : (k : ℕ) → has_place summary.here.words k ≡ (nat_lt k (length ms) && in_list (targets_of row) (slice_index ms k))
  pub earliest : (k : ℕ) → in_list (targets_of row) k ≡ true → summary.earliest ≤ since_in row k
  pub latest : (k : ℕ) → since_in row k ≤ summary.latest

-- each row has its own, and who waits for one of another site is marked
pub record AreSummaries (ms : List ℕ) (rows : List (List Wait)) (summaries : List Summary) (leaving : List ℕ) : Type 0 where
  pub long : length summaries ≡ length ms
  pub each : (place : ℕ) (s : Summary) → place < length ms → slice_index_or summaries place s ≡ s → IsSummary ms (slice_index_or rows place []) s
  pub stay : (place k : ℕ) → place < length ms → has_place leaving place ≡ false
      → in_list (targets_of (slice_index_or rows place [])) k ≡ true → in_list ms k ≡ true

-- no wait is younger than the ask of i with stamp n
pub record AreNoYounger (ms : List ℕ) (rows : List (List Wait)) (n i : ℕ) : Type 0 where
  pub each : (place k : ℕ) → place < length ms → in_list (targets_of (slice_index_or rows place [])) k ≡ true
      → is_before n i (since_in (slice_index_or rows place []) k) (slice_index ms place) ≡ false

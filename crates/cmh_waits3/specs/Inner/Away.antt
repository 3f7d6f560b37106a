-- The waits of a process for those of other sites.
use Rattle.std.specs.Prelude.{◌≡◌, ℕ, ◌<◌, ◌&&◌, ◌||◌, not, false, if◌then◌else◌, List, [], length, slice_index_or}
use Rattle.cmh_model3.specs.Lists.{IsAscending, in_list}
use Rattle.cmh_waits3.specs.declared.wait.Wait.{Wait}
use Rattle.cmh_waits3.specs.Rows.{since_in, targets_of}

-- the waits of the row for others than the members
pub record IsAway (ms : List ℕ) (row away : List Wait) : Type 0 where
  pub targets : (k : ℕ) → in_list (targets_of away) k ≡ (in_list (targets_of row) k && not (in_list ms k))
  pub stamps : (k : ℕ) → in_list ms k ≡ false → since_in away k ≡ since_in row k

-- those of each row
pub record AreAway (ms : List ℕ) (rows aways : List (List Wait)) : Type 0 where
  pub long : length aways ≡ length ms
  pub each : (place : ℕ) → place < length ms → IsAway ms (slice_index_or rows place []) (slice_index_or aways place [])

-- waits for those of these that are no members were added, each with this stamp
pub record AreInsertedAway (ms ks : List ℕ) (since : ℕ) (old new : List Wait) : Type 0 where
  pub ascending : IsAscending (targets_of new)
  pub targets : (k : ℕ) → in_list (targets_of new) k ≡ ((in_list ks k && not (in_list ms k)) || in_list (targets_of old) k)
  pub stamps : (k : ℕ) → since_in new k ≡ if in_list ks k && not (in_list ms k) then since else since_in old k

-- Waits that are added to those of a process.
use Rattle.std.specs.Prelude.{◌≡◌, ℕ, ◌<◌, ◌||◌, true, if◌then◌else◌, List, take, drop}
use Rattle.std.specs.List.{AllByRecursion}
use Rattle.cmh_model3.specs.Lists.{IsAscending, in_list}
use Rattle.cmh_waits3.specs.declared.wait.Wait.{Wait}
use Rattle.cmh_waits3.specs.Rows.{others_than, since_in, targets_of}

-- waits for these were added, each with this stamp
pub record AreInserted (ks : List ℕ) (since : ℕ) (old new : List Wait) : Type 0 where
  pub ascending : IsAscending (targets_of new)
  pub targets : (k : ℕ) → in_list (targets_of new) k ≡ (in_list ks k || in_list (targets_of old) k)
  pub stamps : (k : ℕ) → since_in new k ≡ if in_list ks k then since else since_in old k
  pub others : (qs : List ℕ) → ((k : ℕ) → in_list ks k ≡ true → in_list qs k ≡ true)
      → others_than qs new ≡ others_than qs old

-- in an ascending list, what stands before the place is below the target, and what stands from it on is above
pub record IsPlaceFor (target place : ℕ) (ws : List Wait) : Type 0 where
  pub below : AllByRecursion (λ k. k < target) (targets_of (take place ws))
  pub above : AllByRecursion (λ k. target < k) (targets_of (drop place ws))

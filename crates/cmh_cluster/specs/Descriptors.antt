-- How many descriptors a cluster needs, and how one ends that begins only where it may have them.
use Rattle.std.specs.Prelude.{◌≡◌, ℕ, ◌+◌, ◌*◌, ◌<◌, ◌≤◌, ◌⊎◌, List, [], ◌∷◌, ◌++◌, codes, length}
use Rattle.std.specs.Fmt.{decimal}
use Rattle.cmh_frames.specs.Topology.{sites_of}
use Rattle.cmh_console.specs.Device.{Tells, Writing}
use Rattle.cmh_console.specs.TopologyFile.{OfTopology}
use Rattle.cmh_cluster.specs.ClusterEndings.{ClusterEnds}
use Rattle.cmh_cluster.specs.declared.descriptors.Shortage.{Shortage}

-- Three of the program; for each site two where it listens, one for its journal, and one that the system sets aside for the
-- next connection while the site waits for it; and for each link one at either end.
abbrev pub descriptors_for : ℕ → ℕ
descriptors_for sites = 2 * (sites * sites) + 2 * sites + 3

-- the line that names a shortage
abbrev pub shortage_text : Shortage → List ℕ
shortage_text shortage = codes "fault descriptors " ++ decimal shortage.needed ++ codes " allowed " ++ decimal shortage.allowed

-- the sites of the topology need so many descriptors, and the process may have fewer
abbrev pub IsShortage : List ℕ → Shortage → Type 0
IsShortage topology shortage =
    OfTopology topology (λ world. shortage.needed ≡ descriptors_for (length (sites_of world)))
    × (shortage.allowed < shortage.needed)

-- they need no more than so many
abbrev pub HasRoom : List ℕ → ℕ → Type 0
HasRoom topology allowed = OfTopology topology (λ world. descriptors_for (length (sites_of world)) ≤ allowed)

-- no site was started for want of descriptors, and that was said, unless the writer failed
pub record NamesShortage {W E : Type 0} (topology : List ℕ) (old new : Writing W) (err_old err_new : Writing E)
    (status : ℕ) : Type 0 where
  pub shortage : Shortage
  pub is : IsShortage topology shortage
  pub unwritten : new ≡ old
  pub named : Tells err_old.written err_new.written err_new.has_failed (shortage_text shortage ++ 10 ∷ [])
  pub status_is : status ≡ 1

-- no site was started for want of descriptors; or a cluster ended, with status 1 in place of 0 where links could not be opened
abbrev pub StrictlyEnds : {W E : Type 0} → List ℕ → List ℕ → Writing W → Writing W → Writing E → Writing E → ℕ → ℕ → Type 0
StrictlyEnds topology script old new err_old err_new status unopened =
    NamesShortage topology old new err_old err_new status
    ⊎ ClusterEnds topology script old new err_old err_new status
    ⊎ (ClusterEnds topology script old new err_old err_new 0 × (0 < unopened) × (status ≡ 1))

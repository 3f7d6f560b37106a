-- How a site that the program serves ends, and a cluster.
use Rattle.std.specs.Prelude.{◌≡◌, ◌≢◌, ℕ, ◌⊎◌, true, List, IfSome}
use Rattle.cmh_console.specs.Device.{Reading, Writing}
use Rattle.cmh_console.specs.Faults.{NamesFault}
use Rattle.cmh_console.specs.TopologyFile3.{SaysNoWorld}
use Rattle.cmh_setting.specs.SiteFaults.{as_fault as of_site}
use Rattle.cmh_setting.specs.declared.site_fault.SiteFault.{SiteFault}
use Rattle.cmh_setting.specs.declared.site_fault.SiteFault.TheVariants.{Site}
use Rattle.cmh_cluster3.specs.Endings.{DiskClusterEnds}
use Rattle.cmh_serve3.specs.Setting.{IsOfEdition3}
use Rattle.cmh_cluster.specs.ClusterEndings.{ClusterEnds}
use Rattle.cmh_cluster.specs.Descriptors.{StrictlyEnds}
use Rattle.cmh_inputs.specs.FileFaults.{IsUnread, as_fault as of_file}
use Rattle.cmh_run_site.specs.Endings.{EndedEarly, IsSiteFault, Served}

-- A site of a topology file ended, that read these bytes where they are told: at status 0 it was served to its end, which
-- was flushed; else it was served up to some line or not at all, and a fault is named that has a cause.
pub record SiteEnds {R W E : Type 0} (topology : List ℕ) (site : ℕ) (was read : Reading R) (old new : Writing W)
    (err_old err_new : Writing E) (status : ℕ) : Type 0 where
  pub served : status ≡ 0 → IfSome was.left (λ lines. Served topology site lines old.written new.written)
  pub flushed : status ≡ 0 → new.is_flushed ≡ true
  pub silent : status ≡ 0 → err_new ≡ err_old
  pub early : status ≢ 0
      → IfSome was.left (λ lines. EndedEarly topology site lines old.written new.written new.has_failed)
  pub fault : status ≢ 0 → NamesFault of_site (IsSiteFault topology site was.left read.has_failed new.has_failed) status err_old
      err_new

-- A site of this topology file ended; or nothing is written and it is named that the file could not be read. Of a site of
-- edition 3 nothing is said.
abbrev pub ServesFile : {R W E : Type 0} → List ℕ → ℕ → Reading R → Reading R → Writing W → Writing W → Writing E → Writing E → ℕ → Type 0
ServesFile topology site was read old new err_old err_new status =
    (SaysNoWorld topology → SiteEnds topology site was read old new err_old err_new status)
    ⊎ ((new ≡ old) × NamesFault of_file IsUnread status err_old err_new)

-- the same of some topology file
abbrev pub ServesSite : {R W E : Type 0} → ℕ → Reading R → Reading R → Writing W → Writing W → Writing E → Writing E → ℕ → Type 0
ServesSite site was read old new err_old err_new status =
    ((topology : List ℕ) × (SaysNoWorld topology → SiteEnds topology site was read old new err_old err_new status))
    ⊎ ((new ≡ old) × NamesFault of_file IsUnread status err_old err_new)

-- the number is no site's
abbrev pub IsNoSite : SiteFault → Type 0
IsNoSite fault = fault ≡ Site

-- the same of some site, or nothing is written and it is named that there is none
abbrev pub ServesSome : {R W E : Type 0} → Reading R → Reading R → Writing W → Writing W → Writing E → Writing E → ℕ → Type 0
ServesSome was read old new err_old err_new status =
    ((site : ℕ) × ServesSite site was read old new err_old err_new status)
    ⊎ ((new ≡ old) × NamesFault of_site IsNoSite status err_old err_new)

-- all sites of a topology file of edition 3 ran, and this ended
abbrev pub ServesCluster3 : {W E : Type 0} → Writing W → Writing W → Writing E → Writing E → ℕ → Type 0
ServesCluster3 old new err_old err_new status = (topology : List ℕ) × (script : List ℕ) × IsOfEdition3 topology
    × DiskClusterEnds topology script old new err_old err_new status

-- a cluster of some topology file and some script ended, or nothing is written and the fault of one that could not be read
-- is named
abbrev pub ServesCluster : {W E : Type 0} → Writing W → Writing W → Writing E → Writing E → ℕ → Type 0
ServesCluster old new err_old err_new status =
    ((topology : List ℕ) × (script : List ℕ) × ClusterEnds topology script old new err_old err_new status)
    ⊎ ServesCluster3 old new err_old err_new status
    ⊎ ((new ≡ old) × NamesFault of_file IsUnread status err_old err_new)

-- the same of a strict cluster, some of whose links could not be opened, or none
abbrev pub ServesStrictly : {W E : Type 0} → Writing W → Writing W → Writing E → Writing E → ℕ → Type 0
ServesStrictly old new err_old err_new status =
    ((topology : List ℕ) × (script : List ℕ) × (unopened : ℕ) × StrictlyEnds topology script old new err_old err_new status unopened
    × (status ≡ 0 → unopened ≡ 0))
    ⊎ ServesCluster3 old new err_old err_new status
    ⊎ ((new ≡ old) × NamesFault of_file IsUnread status err_old err_new)

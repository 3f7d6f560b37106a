-- Why a service ends.
use Rattle.std.specs.Prelude.{◌≡◌, ℕ, Bool, true, false, List, ⊤}
use Rattle.cmh_frames.specs.Topology.{is_site}
use Rattle.cmh_console.specs.TopologyFile.{IsOfNoTopology, OfTopology, SaysNoPorts}
use Rattle.cmh_console.specs.declared.faults.Fault.{Fault}
use Rattle.cmh_console.specs.declared.faults.Fault.TheVariants as lines
use Rattle.cmh_setting.specs.declared.setting.SettingFault.{SettingFault}
use Rattle.cmh_setting.specs.declared.setting.SettingFault.TheVariants as setting
use Rattle.cmh_setting.specs.declared.site_fault.SiteFault.{SiteFault}
use Rattle.cmh_setting.specs.declared.site_fault.SiteFault.TheVariants as site
use Rattle.cmh_service.specs.declared.service_fault.ServiceFault.{ServiceFault}
use Rattle.cmh_service.specs.declared.service_fault.ServiceFault.TheVariants.{Json, Topology as NoTopology, Site, JournalDisk, Listen, Output, Memory}
use Rattle.cmh_service.specs.declared.service_fault.Shortage.{Shortage}
use Rattle.cmh_service.specs.declared.service_fault.Shortage.TheVariants as shortages

-- the topology file is that of a topology which has the site, or which doesn't
abbrev pub Knows : List ℕ → ℕ → Bool → Type 0
Knows topology site is_known = OfTopology topology (λ t. is_site t site ≡ is_known)

-- The cause of a fault. What a disk or a port refuses comes only where the topology has the site.
abbrev pub IsServiceFault : List ℕ → ℕ → Bool → ServiceFault → Type 0
IsServiceFault topology site write_failed Json = SaysNoPorts topology
IsServiceFault topology site write_failed (NoTopology fault) = IsOfNoTopology topology fault
IsServiceFault topology site write_failed Site = Knows topology site false
IsServiceFault topology site write_failed JournalDisk = Knows topology site true
IsServiceFault topology site write_failed Listen = Knows topology site true
IsServiceFault topology site write_failed Output = write_failed ≡ true
IsServiceFault topology site write_failed Memory = ⊤

-- the fault that is named
abbrev pub as_fault : ServiceFault → Fault
as_fault Json = lines.Json
as_fault (NoTopology fault) = lines.Topology fault
as_fault Site = lines.Site
as_fault JournalDisk = lines.JournalDisk
as_fault Listen = lines.Listen
as_fault Output = lines.Output
as_fault Memory = lines.Memory

-- ---- the fault that a lower one comes to

abbrev pub of_setting : SettingFault → ServiceFault
of_setting setting.Json = Json
of_setting (setting.Topology fault) = NoTopology fault
of_setting setting.Memory = Memory

-- that of a site, which reads no input here
abbrev pub of_site : SiteFault → ServiceFault
of_site site.Json = Json
of_site (site.Topology fault) = NoTopology fault
of_site site.Site = Site
of_site site.JournalDisk = JournalDisk
of_site site.Listen = Listen
of_site site.Input = Listen
of_site site.Output = Output
of_site site.Memory = Memory

abbrev pub of_shortage : Shortage → ServiceFault
of_shortage shortages.Listen = Listen
of_shortage shortages.Memory = Memory

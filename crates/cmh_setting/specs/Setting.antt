-- Why a topology file is not that of running sites.
use Rattle.std.specs.Prelude.{ℕ, List, ⊤}
use Rattle.cmh_frames.specs.declared.rows.TopologyFault.{TopologyFault}
use Rattle.cmh_frames.specs.declared.rows.TopologyFault.TheVariants as rows
use Rattle.cmh_console.specs.TopologyFile.{IsOfNoTopology, SaysNoPorts}
use Rattle.cmh_console.specs.declared.topology_file.TopologyFileFault.{TopologyFileFault}
use Rattle.cmh_console.specs.declared.topology_file.TopologyFileFault.TheVariants as files
use Rattle.cmh_setting.specs.declared.setting.SettingFault.{SettingFault}
use Rattle.cmh_setting.specs.declared.setting.SettingFault.TheVariants.{Json, Topology, Memory}

-- why there is no setting; nothing is said of running out of memory
abbrev pub IsSettingFault : List ℕ → SettingFault → Type 0
IsSettingFault file Json = SaysNoPorts file
IsSettingFault file (Topology fault) = IsOfNoTopology file fault
IsSettingFault file Memory = ⊤

-- ---- the fault that a lower one comes to

abbrev pub of_file : TopologyFileFault → SettingFault
of_file files.Json = Json
of_file files.Memory = Memory

abbrev pub of_topology : TopologyFault → SettingFault
of_topology rows.Memory = Memory
of_topology fault = Topology fault

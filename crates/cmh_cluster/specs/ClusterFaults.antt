-- Why a cluster ends without an audit.
use Rattle.cmh_console.specs.declared.dialogue.DialogueFault.{DialogueFault}
use Rattle.cmh_console.specs.declared.dialogue.DialogueFault.TheVariants as dialogue
use Rattle.cmh_console.specs.declared.faults.Fault.{Fault}
use Rattle.cmh_console.specs.declared.faults.Fault.TheVariants as lines
use Rattle.cmh_console.specs.declared.keeping.NoFile.{NoFile}
use Rattle.cmh_console.specs.declared.keeping.NoFile.TheVariants as files
use Rattle.cmh_setting.specs.declared.setting.SettingFault.{SettingFault}
use Rattle.cmh_setting.specs.declared.setting.SettingFault.TheVariants as setting
use Rattle.cmh_cluster.specs.declared.cluster_fault.ClusterFault.{ClusterFault}
use Rattle.cmh_cluster.specs.declared.cluster_fault.ClusterFault.TheVariants.{Json, Topology, ScriptFile, OutFile, Listen, Output, Memory}

-- the fault that is named
abbrev pub as_fault : ClusterFault → Fault
as_fault Json = lines.Json
as_fault (Topology fault) = lines.Topology fault
as_fault ScriptFile = lines.ScriptFile
as_fault OutFile = lines.OutFile
as_fault Listen = lines.Listen
as_fault Output = lines.Output
as_fault Memory = lines.Memory

-- ---- the fault that a lower one comes to

abbrev pub of_setting : SettingFault → ClusterFault
of_setting setting.Json = Json
of_setting (setting.Topology fault) = Topology fault
of_setting setting.Memory = Memory

-- a script that is too long to be counted is said to be a file that can't be read
abbrev pub of_dialogue : DialogueFault → ClusterFault
of_dialogue dialogue.Input = ScriptFile
of_dialogue dialogue.Output = Output
of_dialogue dialogue.Memory = Memory

-- that of a journal
abbrev pub of_file : NoFile → ClusterFault
of_file files.Disk = OutFile
of_file files.Memory = Memory

-- Why a cluster of edition 3 ends without an audit.
use Rattle.cmh_frames.specs.declared.rows.TopologyFault.{TopologyFault}
use Rattle.cmh_frames.specs.declared.rows.TopologyFault.TheVariants as rows
use Rattle.cmh_console.specs.declared.dialogue.DialogueFault.{DialogueFault}
use Rattle.cmh_console.specs.declared.dialogue.DialogueFault.TheVariants as dialogue
use Rattle.cmh_console.specs.declared.faults.Fault.{Fault}
use Rattle.cmh_console.specs.declared.faults.Fault.TheVariants as lines
use Rattle.cmh_console.specs.declared.keeping.NoFile.{NoFile}
use Rattle.cmh_console.specs.declared.keeping.NoFile.TheVariants as files
use Rattle.cmh_console.specs.declared.topology_file.TopologyFileFault.{TopologyFileFault}
use Rattle.cmh_console.specs.declared.topology_file.TopologyFileFault.TheVariants as file
use Rattle.cmh_cluster3.specs.declared.cluster_fault.ClusterFault3.{ClusterFault3}
use Rattle.cmh_cluster3.specs.declared.cluster_fault.ClusterFault3.TheVariants.{Json, Topology, ScriptFile, OutFile, Output, Memory}
use Rattle.cmh_cluster3.specs.declared.no_node.NoNode.{NoNode}
use Rattle.cmh_cluster3.specs.declared.no_node.NoNode.TheVariants as node

-- the fault that is named
abbrev pub as_fault : ClusterFault3 → Fault
as_fault Json = lines.Json
as_fault (Topology fault) = lines.Topology fault
as_fault ScriptFile = lines.ScriptFile
as_fault OutFile = lines.OutFile
as_fault Output = lines.Output
as_fault Memory = lines.Memory

-- ---- the fault that a lower one comes to

abbrev pub of_topology_file : TopologyFileFault → ClusterFault3
of_topology_file file.Json = Json
of_topology_file file.Memory = Memory

abbrev pub of_topology : TopologyFault → ClusterFault3
of_topology rows.Memory = Memory
of_topology fault = Topology fault

-- a script that is too long to be counted is said to be a file that can't be read
abbrev pub of_dialogue : DialogueFault → ClusterFault3
of_dialogue dialogue.Input = ScriptFile
of_dialogue dialogue.Output = Output
of_dialogue dialogue.Memory = Memory

-- that of a journal
abbrev pub of_file : NoFile → ClusterFault3
of_file files.Disk = OutFile
of_file files.Memory = Memory

-- at the start
abbrev pub of_node : NoNode → ClusterFault3
of_node node.Memory = Memory
of_node fault = OutFile

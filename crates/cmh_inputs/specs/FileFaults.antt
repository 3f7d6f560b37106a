-- Why a file that the command line names is not read.
use Rattle.std.specs.Prelude.{◌≤◌, ⊤}
use Rattle.cmh_console.specs.declared.faults.Fault.{Fault}
use Rattle.cmh_console.specs.declared.faults.Fault.TheVariants as lines
use Rattle.cmh_inputs.specs.declared.file_fault.FileFault.{FileFault}
use Rattle.cmh_inputs.specs.declared.file_fault.FileFault.TheVariants.{Topology, Script, Journal, Memory}

-- the fault that is named
abbrev pub as_fault : FileFault → Fault
as_fault Topology = lines.TopologyFile
as_fault Script = lines.ScriptFile
as_fault (Journal place) = lines.JournalFile place
as_fault Memory = lines.Memory

-- any, where the place of a journal is from 1
abbrev pub IsUnread : FileFault → Type 0
IsUnread (Journal place) = 1 ≤ place
IsUnread fault = ⊤

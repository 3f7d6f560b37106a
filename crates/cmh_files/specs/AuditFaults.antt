-- Why an audit ends without a verdict.
use Rattle.std.specs.Prelude.{ℕ}
use Rattle.cmh_frames.specs.declared.rows.TopologyFault.{TopologyFault}
use Rattle.cmh_frames.specs.declared.rows.TopologyFault.TheVariants as rows
use Rattle.cmh_journal.specs.declared.journal.JournalFault.{JournalFault}
use Rattle.cmh_journal.specs.declared.journal.JournalFault.TheVariants as journals
use Rattle.cmh_console.specs.declared.faults.Fault.{Fault}
use Rattle.cmh_console.specs.declared.faults.Fault.TheVariants as lines
use Rattle.cmh_console.specs.declared.topology_file.TopologyFileFault.{TopologyFileFault}
use Rattle.cmh_console.specs.declared.topology_file.TopologyFileFault.TheVariants as files
use Rattle.cmh_files.specs.declared.audit_fault.AuditFault.{AuditFault}
use Rattle.cmh_files.specs.declared.audit_fault.AuditFault.TheVariants.{Json, Topology, Journal, Set, Output, Memory}

-- the fault that is named
abbrev pub as_fault : AuditFault → Fault
as_fault Json = lines.Json
as_fault (Topology fault) = lines.Topology fault
as_fault (Journal place fault) = lines.Journal place fault
as_fault (Set fault) = lines.Set fault
as_fault Output = lines.Output
as_fault Memory = lines.Memory

-- ---- the fault that a lower one comes to

abbrev pub of_file : TopologyFileFault → AuditFault
of_file files.Json = Json
of_file files.Memory = Memory

abbrev pub of_topology : TopologyFault → AuditFault
of_topology rows.Memory = Memory
of_topology fault = Topology fault

-- of the journal at this place in the command
abbrev pub of_journal : ℕ → JournalFault → AuditFault
of_journal place journals.Memory = Memory
of_journal place fault = Journal place fault

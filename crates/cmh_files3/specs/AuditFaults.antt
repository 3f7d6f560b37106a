-- Why an audit of edition 3 ends without a verdict.
use Rattle.std.specs.Prelude.{ℕ}
use Rattle.cmh_frames.specs.declared.rows.TopologyFault.{TopologyFault}
use Rattle.cmh_frames.specs.declared.rows.TopologyFault.TheVariants as rows
use Rattle.cmh_journal.specs.declared.journal.JournalFault.TheVariants as journals
use Rattle.cmh_journal.specs.declared.set_fault.SetFault.TheVariants as older
use Rattle.cmh_segment3.specs.declared.segment.SegmentFault.TheVariants as segments
use Rattle.cmh_audit3.specs.declared.file.FileFault.{FileFault}
use Rattle.cmh_audit3.specs.declared.file.FileFault.TheVariants as files
use Rattle.cmh_audit3.specs.declared.set.SetFault.TheVariants as set
use Rattle.cmh_console.specs.declared.faults.Fault.{Fault}
use Rattle.cmh_console.specs.declared.faults.Fault.TheVariants as lines
use Rattle.cmh_console.specs.declared.topology_file.TopologyFileFault.{TopologyFileFault}
use Rattle.cmh_console.specs.declared.topology_file.TopologyFileFault.TheVariants as topologies
use Rattle.cmh_files3.specs.declared.audit_fault.AuditFault.{AuditFault}
use Rattle.cmh_files3.specs.declared.audit_fault.AuditFault.TheVariants.{Json, Topology, NoSegment, Damaged, OtherEdition, Set, Output, Memory}

-- The fault that is named: the numbers are those of editions 1 and 2, and 5 and 6 of a set.
abbrev pub as_fault : AuditFault → Fault
as_fault Json = lines.Json
as_fault (Topology fault) = lines.Topology fault
as_fault (NoSegment place) = lines.Journal place journals.BadHeader
as_fault (Damaged place byte) = lines.Journal place (journals.BadEntry byte)
as_fault OtherEdition = lines.Set older.OtherEdition
as_fault (Set set.UnknownSite) = lines.Set older.UnknownSite
as_fault (Set set.RepeatedSite) = lines.Set older.RepeatedSite
as_fault (Set set.MissingSite) = lines.Set older.MissingSite
as_fault (Set set.OtherWorld) = lines.OtherWorld
as_fault (Set set.LaterEpoch) = lines.LaterEpoch
as_fault Output = lines.Output
as_fault Memory = lines.Memory

-- ---- the fault that a lower one comes to

-- of the file at this place in the command
abbrev pub of_file : ℕ → FileFault → AuditFault
of_file place files.OtherEdition = OtherEdition
of_file place (files.Segment segments.BadHead) = NoSegment place
of_file place (files.Segment (segments.Damaged byte)) = Damaged place byte
of_file place (files.Segment segments.Memory) = Memory

abbrev pub of_topology_file : TopologyFileFault → AuditFault
of_topology_file topologies.Json = Json
of_topology_file topologies.Memory = Memory

abbrev pub of_topology : TopologyFault → AuditFault
of_topology rows.Memory = Memory
of_topology fault = Topology fault

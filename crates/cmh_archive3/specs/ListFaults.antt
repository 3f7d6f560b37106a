-- Why the segments of a world are not listed.
use Rattle.cmh_console.specs.declared.faults.Fault.{Fault as FaultLine}
use Rattle.cmh_files3.specs.AuditFaults as audits
use Rattle.cmh_inputs.specs.FileFaults as files
use Rattle.cmh_archive3.specs.declared.list_fault.ListFault.{ListFault}
use Rattle.cmh_archive3.specs.declared.list_fault.ListFault.TheVariants.{File, Audit}

-- the fault that is named: that of an audit
abbrev pub as_fault : ListFault → FaultLine
as_fault (File fault) = files.as_fault fault
as_fault (Audit fault) = audits.as_fault fault

-- Why journals are not shown.
use Rattle.std.specs.Prelude.{ℕ}
use Rattle.cmh_journal.specs.declared.journal.JournalFault.{JournalFault}
use Rattle.cmh_journal.specs.declared.journal.JournalFault.TheVariants as journals
use Rattle.cmh_console.specs.declared.faults.Fault.{Fault}
use Rattle.cmh_console.specs.declared.faults.Fault.TheVariants as lines
use Rattle.cmh_files.specs.declared.show_fault.ShowFault.{ShowFault}
use Rattle.cmh_files.specs.declared.show_fault.ShowFault.TheVariants.{Journal, Output, Memory}

-- the fault that is named
abbrev pub as_fault : ShowFault → Fault
as_fault (Journal place fault) = lines.Journal place fault
as_fault Output = lines.Output
as_fault Memory = lines.Memory

-- the fault that that of the journal at this place in the command comes to
abbrev pub of_journal : ℕ → JournalFault → ShowFault
of_journal place journals.Memory = Memory
of_journal place fault = Journal place fault

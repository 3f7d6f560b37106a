-- The faults of commands, by their statuses and their lines.
use Rattle.std.specs.Prelude.{◌≡◌, ℕ, List, [], ◌∷◌, ◌++◌, codes}
use Rattle.std.specs.Fmt.{decimal}
use Rattle.cmh_frames.specs.Rows.{fault_number}
use Rattle.cmh_journal.specs.Journal.{number_of}
use Rattle.cmh_journal.specs.declared.journal.JournalFault.TheVariants.{BadEntry}
use Rattle.cmh_journal.specs.SetFaults as set
use Rattle.cmh_console.specs.Device.{Tells, Writing}
use Rattle.cmh_console.specs.declared.faults.Fault.{Fault}
use Rattle.cmh_console.specs.declared.faults.Fault.TheVariants.{TopologyFile, ScriptFile, OutFile, JournalFile, Json, Topology, Journal, Set, OtherWorld, LaterEpoch, Random, Site, JournalDisk, Listen, Input, Output, Memory}

-- the status with which the program ends: 1 where memory ran out, else 3
abbrev pub status_of : Fault → ℕ
status_of Memory = 1
status_of fault = 3

abbrev pub fault_text : Fault → List ℕ
fault_text TopologyFile = codes "fault file topology"
fault_text ScriptFile = codes "fault file script"
fault_text OutFile = codes "fault file out"
fault_text (JournalFile place) = codes "fault file " ++ decimal place
fault_text Json = codes "fault json"
fault_text (Topology fault) = codes "fault topology " ++ decimal (fault_number fault)
fault_text (Journal place (BadEntry byte)) = codes "fault journal " ++ decimal place ++ codes " 2 at " ++ decimal byte
fault_text (Journal place fault) = codes "fault journal " ++ decimal place ++ codes " " ++ decimal (number_of fault)
fault_text (Set fault) = codes "fault set " ++ decimal (set.number_of fault)
fault_text OtherWorld = codes "fault set 5"
fault_text LaterEpoch = codes "fault set 6"
fault_text Random = codes "fault random"
fault_text Site = codes "fault site"
fault_text JournalDisk = codes "fault journal disk"
fault_text Listen = codes "fault listen"
fault_text Input = codes "fault input"
fault_text Output = codes "fault output"
fault_text Memory = codes "fault memory"

-- ---- the end of a command

-- A command ended with a fault of its own that has a cause. It named the line to which that comes, unless the writer failed,
-- and its status is that of the line.
pub record NamesFault {F E : Type 0} (line_of : F → Fault) (is_cause : F → Type 0) (status : ℕ) (old new : Writing E) : Type 0 where
  pub fault : F
  pub cause : is_cause fault
  pub status_is : status ≡ status_of (line_of fault)
  pub named : Tells old.written new.written new.has_failed (fault_text (line_of fault) ++ 10 ∷ [])

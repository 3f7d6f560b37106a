-- Why a script is not played to its end, or its journals are not kept.
use Rattle.std.specs.Prelude.{◌≡◌, ℕ, Bool, true, List, Option, ⊤}
use Rattle.cmh_console.specs.Dialogue.{IsDialogueFault}
use Rattle.cmh_console.specs.declared.dialogue.DialogueFault.{DialogueFault}
use Rattle.cmh_console.specs.declared.dialogue.DialogueFault.TheVariants as dialogue
use Rattle.cmh_console.specs.declared.faults.Fault.{Fault}
use Rattle.cmh_console.specs.declared.faults.Fault.TheVariants as lines
use Rattle.cmh_console.specs.declared.keeping.NoFile.{NoFile}
use Rattle.cmh_console.specs.declared.keeping.NoFile.TheVariants as files
use Rattle.cmh_play.specs.declared.play_fault.PlayFault.{PlayFault}
use Rattle.cmh_play.specs.declared.play_fault.PlayFault.TheVariants.{Input, Output, OutFile, Memory}

-- the fault that is named
abbrev pub as_fault : PlayFault → Fault
as_fault Input = lines.Input
as_fault Output = lines.Output
as_fault OutFile = lines.OutFile
as_fault Memory = lines.Memory

-- the causes, by the bytes that the reader tells; those of a keeper are its own, and nothing is said of running out of memory
abbrev pub IsPlayFault : (NoFile → Type 0) → Option (List ℕ) → Bool → Bool → PlayFault → Type 0
IsPlayFault Fails bytes read_failed write_failed Input = IsDialogueFault bytes read_failed write_failed dialogue.Input
IsPlayFault Fails bytes read_failed write_failed Output = write_failed ≡ true
IsPlayFault Fails bytes read_failed write_failed OutFile = Fails files.Disk
IsPlayFault Fails bytes read_failed write_failed Memory = ⊤

-- ---- the fault that a lower one comes to

abbrev pub of_dialogue : DialogueFault → PlayFault
of_dialogue dialogue.Input = Input
of_dialogue dialogue.Output = Output
of_dialogue dialogue.Memory = Memory

abbrev pub of_keeper : NoFile → PlayFault
of_keeper files.Disk = OutFile
of_keeper files.Memory = Memory

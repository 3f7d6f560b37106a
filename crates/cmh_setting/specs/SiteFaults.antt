-- Why a site ends before it is told to.
use Rattle.cmh_console.specs.declared.dialogue.DialogueFault.{DialogueFault}
use Rattle.cmh_console.specs.declared.dialogue.DialogueFault.TheVariants as dialogue
use Rattle.cmh_console.specs.declared.faults.Fault.{Fault}
use Rattle.cmh_console.specs.declared.faults.Fault.TheVariants as lines
use Rattle.cmh_console.specs.declared.keeping.NoFile.{NoFile}
use Rattle.cmh_console.specs.declared.keeping.NoFile.TheVariants as files
use Rattle.cmh_setting.specs.declared.setting.SettingFault.{SettingFault}
use Rattle.cmh_setting.specs.declared.setting.SettingFault.TheVariants as setting
use Rattle.cmh_setting.specs.declared.site_fault.SiteFault.{SiteFault}
use Rattle.cmh_setting.specs.declared.site_fault.SiteFault.TheVariants.{Json, Topology, Site, JournalDisk, Listen, Input, Output, Memory}

-- the fault that is named
abbrev pub as_fault : SiteFault → Fault
as_fault Json = lines.Json
as_fault (Topology fault) = lines.Topology fault
as_fault Site = lines.Site
as_fault JournalDisk = lines.JournalDisk
as_fault Listen = lines.Listen
as_fault Input = lines.Input
as_fault Output = lines.Output
as_fault Memory = lines.Memory

-- ---- the fault that a lower one comes to

abbrev pub of_setting : SettingFault → SiteFault
of_setting setting.Json = Json
of_setting (setting.Topology fault) = Topology fault
of_setting setting.Memory = Memory

abbrev pub of_dialogue : DialogueFault → SiteFault
of_dialogue dialogue.Input = Input
of_dialogue dialogue.Output = Output
of_dialogue dialogue.Memory = Memory

-- that of a journal
abbrev pub of_file : NoFile → SiteFault
of_file files.Disk = JournalDisk
of_file files.Memory = Memory

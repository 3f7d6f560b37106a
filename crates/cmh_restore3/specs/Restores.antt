-- The command `restore`.
use Rattle.std.specs.Prelude.{◌≡◌, ℕ, List, ◌++◌, Option, codes}
use Rattle.std.specs.Fmt.{decimal}
use Rattle.std.specs.List.{All}
use Rattle.cmh_console.specs.declared.faults.Fault.{Fault}
use Rattle.cmh_console.specs.declared.faults.Fault.TheVariants as lines
use Rattle.cmh_console.specs.declared.keeping.NoFile.{NoFile}
use Rattle.cmh_console.specs.declared.keeping.NoFile.TheVariants as files
use Rattle.cmh_console.specs.declared.topology_file.TopologyFileFault.{TopologyFileFault}
use Rattle.cmh_console.specs.declared.topology_file.TopologyFileFault.TheVariants as json
use Rattle.cmh_files3.specs.Audits.{SaysTopology}
use Rattle.cmh_frames.specs.declared.rows.TopologyFault.{TopologyFault}
use Rattle.cmh_frames.specs.declared.rows.TopologyFault.TheVariants as rows
use Rattle.cmh_inputs.specs.Stored.{Stored}
use Rattle.cmh_journal.specs.declared.journal.JournalFault.TheVariants.{BadHeader}
use Rattle.cmh_journal.specs.declared.set_fault.SetFault.TheVariants as older
use Rattle.cmh_audit3.specs.declared.set.SetFault.{SetFault}
use Rattle.cmh_audit3.specs.declared.set.SetFault.TheVariants.{OtherWorld, UnknownSite, RepeatedSite, MissingSite, LaterEpoch}
use Rattle.cmh_segment3.specs.declared.head.Head.{Head}
use Rattle.cmh_segment3.specs.declared.segment.Segment.{Segment}
use Rattle.cmh_topology3.specs.Topology.{Topology, sites_of}
use Rattle.cmh_restore3.specs.declared.checks.NotRestored.{NotRestored}
use Rattle.cmh_restore3.specs.declared.checks.NotRestored.TheVariants as reasons
use Rattle.cmh_restore3.specs.declared.fault.RestoreFault.{RestoreFault}
use Rattle.cmh_restore3.specs.declared.fault.RestoreFault.TheVariants.{Json, Topology as NoTopology, Unread, NoSegment, Gap, Refused, Out, Output, Memory}
use Rattle.cmh_restore3.specs.declared.fault.Told.{Told}
use Rattle.cmh_restore3.specs.declared.fault.Told.TheVariants.{Wrong, Fault as Named}
use Rattle.cmh_restore3.specs.declared.fault.WrongBases.{WrongBases}
use Rattle.cmh_restore3.specs.declared.fault.WrongBases.TheVariants.{Of, Between}
use Rattle.cmh_restore3.specs.Keeping.{BeginsEach}
use Rattle.cmh_restore3.specs.Reading.{AreNamedHeads}
use Rattle.cmh_restore3.specs.Restored.{CanBeRestored, restored_all}

-- ---- its faults

-- the line of bases that are wrong
abbrev pub wrong_text : WrongBases → List ℕ
wrong_text (Of site) = codes "base " ++ decimal site
wrong_text (Between link) = codes "link " ++ (decimal link.from ++ (codes " " ++ decimal link.to))

-- the line of a fault of the set
abbrev pub line_of_set : SetFault → Fault
line_of_set UnknownSite = lines.Set older.UnknownSite
line_of_set RepeatedSite = lines.Set older.RepeatedSite
line_of_set MissingSite = lines.Set older.MissingSite
line_of_set OtherWorld = lines.OtherWorld
line_of_set LaterEpoch = lines.LaterEpoch

-- what is said of a world that can't be restored: which base, which link, or the line of a fault
abbrev pub told_of_world : NotRestored → Told
told_of_world reasons.OtherWorld = Named lines.OtherWorld
told_of_world reasons.NotBegun = Named lines.LaterEpoch
told_of_world (reasons.Set fault) = Named (line_of_set fault)
told_of_world (reasons.Base site) = Wrong (Of site)
told_of_world (reasons.Link link) = Wrong (Between link)
told_of_world reasons.Memory = Named lines.Memory

abbrev pub told_of : RestoreFault → Told
told_of Json = Named lines.Json
told_of (NoTopology fault) = Named (lines.Topology fault)
told_of (Unread place) = Named (lines.JournalFile place)
told_of (NoSegment place) = Named (lines.Journal place BadHeader)
told_of Gap = Named lines.LaterEpoch
told_of (Refused fault) = told_of_world fault
told_of Out = Named lines.OutFile
told_of Output = Named lines.Output
told_of Memory = Named lines.Memory

abbrev pub of_topology_file : TopologyFileFault → RestoreFault
of_topology_file json.Json = Json
of_topology_file json.Memory = Memory

abbrev pub of_topology : TopologyFault → RestoreFault
of_topology rows.Memory = Memory
of_topology fault = NoTopology fault

abbrev pub of_file : NoFile → RestoreFault
of_file files.Disk = Out
of_file files.Memory = Memory

-- ---- what it does

-- What was read can be restored: the topology file says a world, and the heads are those of segments of the journals at the
-- paths, of which it can be made. And none of its sites has a journal there yet.
pub record IsRestorable {K : Type 0} (told : Option Stored) (Lacks : K → ℕ → Type 0) (topology : List ℕ) (epoch : ℕ)
    (paths : List (List ℕ)) (keeper : K) (world : Topology) (heads : List Head) : Type 0 where
  pub says : SaysTopology topology world
  pub named : AreNamedHeads told paths heads
  pub can : CanBeRestored world epoch heads
  pub lacks : All (Lacks keeper) (sites_of world)

-- these are the first segments of a world that can be restored
pub record IsBeginning {K : Type 0} (told : Option Stored) (Lacks : K → ℕ → Type 0) (topology : List ℕ) (epoch : ℕ)
    (paths : List (List ℕ)) (keeper : K) (world : Topology) (segments : List Segment) : Type 0 where
  pub heads : List Head
  pub restorable : IsRestorable told Lacks topology epoch paths keeper world heads
  pub segments_are : segments ≡ restored_all world epoch heads

-- each of its sites has got the journal that begins with its segment
pub record Restores {K : Type 0} (told : Option Stored) (Lacks : K → ℕ → Type 0) (Begins : K → ℕ → ℕ → List ℕ → K → Type 0)
    (topology : List ℕ) (epoch : ℕ) (paths : List (List ℕ)) (old new : K) : Type 0 where
  pub world : Topology
  pub heads : List Head
  pub restorable : IsRestorable told Lacks topology epoch paths old world heads
  pub begun : BeginsEach Begins (restored_all world epoch heads) (sites_of world) old new

-- some world of the topology file can be restored
abbrev pub SomeIsRestorable : {K : Type 0} → Option Stored → (K → ℕ → Type 0) → List ℕ → ℕ → List (List ℕ) → K → Type 0
SomeIsRestorable told Lacks topology epoch paths keeper =
    (world : Topology) × (heads : List Head) × IsRestorable told Lacks topology epoch paths keeper world heads

-- An audit of edition 3: from the bytes of its files to what it finds.
use Rattle.std.specs.Prelude.{◌≡◌, ℕ, zero, suc, ◌+◌, Bool, true, ◌⊎◌, List, [], ◌∷◌, ◌++◌, length, map, ⊤, Option, Some, codes, flat_map}
use Rattle.std.specs.Fmt.{decimal}
use Rattle.std.specs.List.{AllByRecursion, AllZip}
use Rattle.std.specs.List.Sorted.{IsPermutation, IsSorted}
use Rattle.std.specs.Io.KnownBytes.{Appends}
use Rattle.cmh_frames.specs.Relation.{pair_cmp}
use Rattle.cmh_frames.specs.Rows.{Row}
use Rattle.cmh_frames.specs.declared.rows.TopologyFault.{TopologyFault}
use Rattle.cmh_model3.specs.Entries.{WorldEvent}
use Rattle.cmh_model3.specs.Runs.{IsRun}
use Rattle.cmh_topology3.specs.Rows.{IsFaultOf}
use Rattle.cmh_topology3.specs.Topology.{IsTopologyOf, Topology, site_of}
use Rattle.cmh_segment3.specs.Segment.{IsSegmentOf}
use Rattle.cmh_segment3.specs.declared.segment.Segment.{Segment}
use Rattle.cmh_audit3.specs.Files.{IsFaultOfFile}
use Rattle.cmh_audit3.specs.Journals.{AreJournalsOf, ComeFromRun, journal_of}
use Rattle.cmh_audit3.specs.Set as set
use Rattle.cmh_audit3.specs.Set.{IsSet}
use Rattle.cmh_audit3.specs.Stops.{AreStops}
use Rattle.cmh_audit3.specs.declared.file.FileFault.{FileFault}
use Rattle.cmh_audit3.specs.declared.stops.Stop.{Stop}
use Rattle.cmh_report3.specs.Reports.{Reports}
use Rattle.cmh_report3.specs.Texts.{report_text}
use Rattle.cmh_report3.specs.declared.report.Report.{Report}
use Rattle.cmh_console.specs.Device.{Writing}
use Rattle.cmh_console.specs.Faults.{NamesFault}
use Rattle.cmh_console.specs.TopologyFile3.{SaysNoWorld, SaysWorld}
use Rattle.cmh_files.specs.AuditTexts.{cuts_text}
use Rattle.cmh_files3.specs.AuditFaults.{as_fault, of_file}
use Rattle.cmh_files3.specs.declared.audit_fault.AuditFault.{AuditFault}
use Rattle.cmh_files3.specs.declared.audit_fault.AuditFault.TheVariants.{Json, Topology as NoTopology, NoSegment, Damaged, OtherEdition, Set as NoSet, Output, Memory}
use Rattle.cmh_files3.specs.declared.auditing.Finding.{Finding}
use Rattle.cmh_files3.specs.declared.auditing.Finding.TheVariants.{Accepted, Refused}

-- ---- the files

-- the file says this topology
abbrev pub SaysTopology : List ℕ → Topology → Type 0
SaysTopology file t = (rows : List Row) × SaysWorld file t.world rows × IsTopologyOf t.world rows t

-- of a segment, and of how many bytes are left of its file after its entries: its site with these, if there are any
abbrev pub cut_of : Segment × ℕ → List (ℕ × ℕ)
cut_of (segment, zero) = []
cut_of (segment, suc n) = (segment.header.site, suc n) ∷ []

-- the files are those of the segments, of which just these were cut off, ascending by their sites
pub record AreRead (files : List (List ℕ)) (segments : List Segment) (cuts : List (ℕ × ℕ)) : Type 0 where
  pub reads : List (Segment × ℕ)
  pub segments_are : segments ≡ map (λ one. one.0) reads
  pub are_files : AllZip (λ one file. IsSegmentOf one.0 one.1 file) reads files
  pub cuts_are : IsPermutation (flat_map cut_of reads) cuts
  pub ascending : IsSorted pair_cmp cuts

-- the topology file says this world, and the files are those of the segments of it
pub record IsWorldOf (topology : List ℕ) (files : List (List ℕ)) (world : Topology) (segments : List Segment)
    (cuts : List (ℕ × ℕ)) : Type 0 where
  pub says : SaysTopology topology world
  pub read : AreRead files segments cuts
  pub set : IsSet world segments

-- ---- the audit

-- the report is one on a run from which the segments come
pub record IsReportOn (t : Topology) (segments : List Segment) (report : Report) : Type 0 where
  pub events : List WorldEvent
  pub run : IsRun (site_of t) events
  pub journals : AreJournalsOf events (journal_of segments)
  pub reports : Reports (site_of t) events report

-- accepted exactly where the segments come from a run, with a report on such a run, or else with the furthest stops
abbrev pub IsFindingOn : Topology → List Segment → Finding → Type 0
IsFindingOn t segments (Accepted report) = IsReportOn t segments report
IsFindingOn t segments (Refused stops) = ¬ ComeFromRun t (journal_of segments) × AreStops t segments stops

-- the audit of a topology file and of the journals' files
pub record Audits (topology : List ℕ) (files : List (List ℕ)) (world : Topology) (cuts : List (ℕ × ℕ)) (finding : Finding) : Type 0 where
  pub segments : List Segment
  pub says : SaysTopology topology world
  pub read : AreRead files segments cuts
  pub set : IsSet world segments
  pub finds : IsFindingOn world segments finding

-- 0 for accepted, 1 for refused
abbrev pub status_of : Finding → ℕ
status_of (Accepted report) = 0
status_of (Refused stops) = 1

-- a site that stops, and the number of its entry
abbrev pub stop_text : Stop → List ℕ
stop_text stop = codes "stop " ++ decimal stop.site ++ codes " at " ++ decimal stop.entry ++ codes "\n"

abbrev pub finding_text : Finding → List ℕ
finding_text (Accepted report) = report_text report
finding_text (Refused stops) = codes "refused\n" ++ flat_map stop_text stops

-- the lines and the status are those of the files' audit
pub record TellsAudit (topology : List ℕ) (files : List (List ℕ)) (text : List ℕ) (status : ℕ) : Type 0 where
  pub world : Topology
  pub cuts : List (ℕ × ℕ)
  pub finding : Finding
  pub audits : Audits topology files world cuts finding
  pub text_is : text ≡ cuts_text cuts ++ finding_text finding
  pub status_is : status ≡ status_of finding

-- these lines were written
abbrev pub WroteAudit : List ℕ → List (List ℕ) → Option (List ℕ) → Option (List ℕ) → ℕ → Type 0
WroteAudit topology files old new status = (text : List ℕ) × TellsAudit topology files text status × Appends old new text

-- ---- faults; nothing is said of running out of memory

-- the file at this place, from 1, is the first at fault
pub record IsFirstFaulty (files : List (List ℕ)) (place : ℕ) (fault : FileFault) : Type 0 where
  pub before : List (List ℕ)
  pub bytes : List ℕ
  pub after : List (List ℕ)
  pub files_are : files ≡ before ++ bytes ∷ after
  pub place_is : place ≡ length before + 1
  pub readable : AllByRecursion (λ file. (g : Segment) × (left : ℕ) × IsSegmentOf g left file) before
  pub fault_is : IsFaultOfFile bytes fault

-- the fault is that of the first file at fault
abbrev pub IsOfFiles : List (List ℕ) → AuditFault → Type 0
IsOfFiles files fault = (place : ℕ) × (lower : FileFault) × IsFirstFaulty files place lower × (fault ≡ of_file place lower)

-- the first fault of the journals' files
abbrev pub IsFaultOfFiles : List (List ℕ) → AuditFault → Type 0
IsFaultOfFiles files (NoSegment place) = IsOfFiles files (NoSegment place)
IsFaultOfFiles files (Damaged place byte) = IsOfFiles files (Damaged place byte)
IsFaultOfFiles files OtherEdition = IsOfFiles files OtherEdition
IsFaultOfFiles files Memory = ⊤
IsFaultOfFiles files fault = ⊥

-- the file says a topology, and this holds of it
abbrev pub OfTopology : List ℕ → (Topology → Type 0) → Type 0
OfTopology file Holds = (t : Topology) × SaysTopology file t × Holds t

-- the file says rows that are those of no topology
abbrev pub IsOfNoTopology : List ℕ → TopologyFault → Type 0
IsOfNoTopology file fault = (world : List ℕ) × (rows : List Row) × SaysWorld file world rows × IsFaultOf rows fault

-- the first fault of an audit's files, before anything is written
abbrev pub IsAuditFault : List ℕ → List (List ℕ) → AuditFault → Type 0
IsAuditFault topology files Json = SaysNoWorld topology
IsAuditFault topology files (NoTopology fault) = IsOfNoTopology topology fault
IsAuditFault topology files (NoSet fault) = OfTopology topology (λ world.
    (segments : List Segment) × (cuts : List (ℕ × ℕ)) × AreRead files segments cuts × (set.fault_of world segments ≡ Some fault))
IsAuditFault topology files Memory = ⊤
IsAuditFault topology files Output = ⊥
IsAuditFault topology files fault = OfTopology topology (λ world. IsFaultOfFiles files fault)

-- Why an audit ends without a verdict. Nothing was written then, but where the writer failed.
abbrev pub IsCause : List ℕ → List (List ℕ) → Option (List ℕ) → Option (List ℕ) → Bool → AuditFault → Type 0
IsCause topology files old new has_failed Output = has_failed ≡ true
IsCause topology files old new has_failed fault = IsAuditFault topology files fault × (new ≡ old)

-- an audit wrote its lines, flushed, and nothing else, or named why it couldn't
abbrev pub AuditEnds : {W E : Type 0} → List ℕ → List (List ℕ) → Writing W → Writing W → Writing E → Writing E → ℕ → Type 0
AuditEnds topology files old new err_old err_new status =
    (WroteAudit topology files old.written new.written status × (new.is_flushed ≡ true) × (err_new ≡ err_old))
    ⊎ NamesFault as_fault (IsCause topology files old.written new.written new.has_failed) status err_old err_new

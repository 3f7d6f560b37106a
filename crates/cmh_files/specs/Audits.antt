-- An audit: from the bytes of its files to the auditor's verdict.
use Rattle.std.specs.Prelude.{◌≡◌, ℕ, ◌+◌, Bool, true, ◌⊎◌, List, [], ◌∷◌, ◌++◌, length, map, ⊤, Option, Some}
use Rattle.std.specs.List.{AllByRecursion, AllZip, flat_map}
use Rattle.std.specs.List.Sorted.{IsPermutation, IsSorted}
use Rattle.std.specs.Io.KnownBytes.{Appends}
use Rattle.cmh_frames.specs.Topology.{Topology}
use Rattle.cmh_frames.specs.Relation.{pair_cmp}
use Rattle.cmh_journal.specs.declared.journal.JournalFault.{JournalFault}
use Rattle.cmh_journal.specs.File.{IsFault, Writes}
use Rattle.cmh_journal.specs.Journal.{Journal}
use Rattle.cmh_audit.specs.Set as set
use Rattle.cmh_audit.specs.Set.{IsSet}
use Rattle.cmh_audit.specs.Verdicts.{IsVerdictOn}
use Rattle.cmh_audit.specs.declared.verdict.Verdict.{Verdict}
use Rattle.cmh_audit.specs.declared.verdict.Verdict.TheVariants.{Accepted, Refused}
use Rattle.cmh_console.specs.Device.{Writing}
use Rattle.cmh_files.specs.AuditTexts.{cuts_text, verdict_text}
use Rattle.cmh_console.specs.Faults.{NamesFault}
use Rattle.cmh_files.specs.Headline.{Headline}
use Rattle.cmh_console.specs.TopologyFile.{SaysTopology, SaysNoRows, OfTopology, IsOfNoTopology}
use Rattle.cmh_files.specs.AuditFaults.{as_fault}
use Rattle.cmh_files.specs.declared.audit_fault.AuditFault.{AuditFault}
use Rattle.cmh_files.specs.declared.audit_fault.AuditFault.TheVariants.{Json, Topology as NoTopology, Journal as NoJournal, Set as NoSet, Output, Memory}

-- ---- the files

-- of a journal, and what is left of its file after its entries: its site, and how many bytes are left, if any are
abbrev pub cut_of : Journal × List ℕ → List (ℕ × ℕ)
cut_of (journal, []) = []
cut_of (journal, left) = (journal.site, length left) ∷ []

-- the files are those of the journals, of which just these were cut off, ascending by their sites
pub record AreRead (files : List (List ℕ)) (journals : List Journal) (cuts : List (ℕ × ℕ)) : Type 0 where
  pub reads : List (Journal × List ℕ)
  pub journals_are : journals ≡ map (λ one. one.0) reads
  pub are_files : AllZip (λ one file. Writes one.0.edition one.0.site one.0.entries one.1 file) reads files
  pub cuts_are : IsPermutation (flat_map cut_of reads) cuts
  pub ascending : IsSorted pair_cmp cuts

-- ---- the audit

-- The audit of a topology file and of the journals' files: this was read, and so the verdict says of those who wrote it.
pub record Audits (topology : List ℕ) (files : List (List ℕ)) (world : Topology) (journals : List Journal)
    (cuts : List (ℕ × ℕ)) (verdict : Verdict) : Type 0 where
  pub says : SaysTopology topology world
  pub read : AreRead files journals cuts
  pub set : IsSet world journals
  pub verdict_is : IsVerdictOn world journals verdict
  pub headline : Headline world files verdict

-- 0 for accepted, 1 for refused
abbrev pub status_of : Verdict → ℕ
status_of (Accepted report) = 0
status_of (Refused stops) = 1

-- the lines and the status are those of the files' audit
pub record TellsAudit (topology : List ℕ) (files : List (List ℕ)) (text : List ℕ) (status : ℕ) : Type 0 where
  pub world : Topology
  pub journals : List Journal
  pub cuts : List (ℕ × ℕ)
  pub verdict : Verdict
  pub audits : Audits topology files world journals cuts verdict
  pub text_is : text ≡ cuts_text cuts ++ verdict_text world.edition verdict
  pub status_is : status ≡ status_of verdict

-- these lines were written
abbrev pub WroteAudit : List ℕ → List (List ℕ) → Option (List ℕ) → Option (List ℕ) → ℕ → Type 0
WroteAudit topology files old new status = (text : List ℕ) × TellsAudit topology files text status × Appends old new text

-- ---- faults; nothing is said of running out of memory

-- the file at this place, from 1, is the first at fault
pub record IsFirstFaulty (files : List (List ℕ)) (place : ℕ) (fault : JournalFault) : Type 0 where
  pub before : List (List ℕ)
  pub bytes : List ℕ
  pub behind : List (List ℕ)
  pub files_are : files ≡ before ++ bytes ∷ behind
  pub place_is : place ≡ length before + 1
  pub readable : AllByRecursion (λ file. (j : Journal) × (left : List ℕ) × Writes j.edition j.site j.entries left file) before
  pub fault_is : IsFault bytes fault

-- the first fault of an audit's files, before anything is written
abbrev pub IsAuditFault : List ℕ → List (List ℕ) → AuditFault → Type 0
IsAuditFault topology files Json = SaysNoRows topology
IsAuditFault topology files (NoTopology fault) = IsOfNoTopology topology fault
IsAuditFault topology files (NoJournal place fault) = OfTopology topology (λ world. IsFirstFaulty files place fault)
IsAuditFault topology files (NoSet fault) = OfTopology topology (λ world.
    (journals : List Journal) × (cuts : List (ℕ × ℕ)) × AreRead files journals cuts × (set.fault_of world journals ≡ Some fault))
IsAuditFault topology files Memory = ⊤
IsAuditFault topology files Output = ⊥

-- Why an audit ends without a verdict. Nothing was written then, but where the writer failed.
abbrev pub IsCause : List ℕ → List (List ℕ) → Option (List ℕ) → Option (List ℕ) → Bool → AuditFault → Type 0
IsCause topology files old new has_failed Output = has_failed ≡ true
IsCause topology files old new has_failed fault = IsAuditFault topology files fault × (new ≡ old)

-- an audit wrote its lines, flushed, and nothing else, or named why it couldn't
abbrev pub AuditEnds : {W E : Type 0} → List ℕ → List (List ℕ) → Writing W → Writing W → Writing E → Writing E → ℕ → Type 0
AuditEnds topology files old new err_old err_new status =
    (WroteAudit topology files old.written new.written status × (new.is_flushed ≡ true) × (err_new ≡ err_old))
    ⊎ NamesFault as_fault (IsCause topology files old.written new.written new.has_failed) status err_old err_new

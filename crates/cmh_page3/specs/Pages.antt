-- A page of edition 3: from the bytes of its files to the lines of their run.
use Rattle.std.specs.Prelude.{◌≡◌, ℕ, ◌<◌, ◌≤◌, Bool, true, ◌⊎◌, List, ◌++◌, length, codes, Option}
use Rattle.std.specs.Fmt.{decimal}
use Rattle.std.specs.List.{flat_map}
use Rattle.std.specs.Io.KnownBytes.{Appends}
use Rattle.cmh_frames.specs.Texts.{processes_text}
use Rattle.cmh_topology3.specs.Topology.{Topology, members_of, sites_of}
use Rattle.cmh_segment3.specs.declared.segment.Segment.{Segment}
use Rattle.cmh_audit3.specs.Journals.{journal_of}
use Rattle.cmh_audit3.specs.declared.verdict.Verdict.{Verdict}
use Rattle.cmh_console.specs.Device.{Writing}
use Rattle.cmh_console.specs.Faults.{NamesFault}
use Rattle.cmh_files.specs.AuditTexts.{cuts_text}
use Rattle.cmh_files3.specs.AuditFaults.{as_fault}
use Rattle.cmh_files3.specs.Audits.{IsAuditFault, IsCause, IsWorldOf, finding_text}
use Rattle.cmh_files3.specs.RunLines.{order_text}
use Rattle.cmh_files3.specs.declared.auditing.Finding.{Finding}
use Rattle.cmh_page.specs.Pages.{IsAround, event_limit}
use Rattle.cmh_page.specs.PageFaults.{NamesPageFault}
use Rattle.cmh_page.specs.declared.page_fault.PageFault.TheVariants as older
use Rattle.cmh_page3.specs.Told.{AreReasons, IsFindingOf, IsVerdictOn, told_order}
use Rattle.cmh_page3.specs.declared.page_fault.PageFault.{PageFault}
use Rattle.cmh_page3.specs.declared.page_fault.PageFault.TheVariants.{Audit, TooManyEvents}

-- ---- the lines

abbrev pub site_text : Topology → ℕ → List ℕ
site_text t site = codes "site " ++ decimal site ++ processes_text (members_of t site) ++ codes "\n"

-- the edition, and then each site with its processes
abbrev pub topology_text : Topology → List ℕ
topology_text t = codes "edition 3\n" ++ flat_map (site_text t) (sites_of t)

-- of an audit: the topology, the lines of what it finds, a line for each entry that is told, and the reasons for stops
abbrev pub lines_text : Topology → List Segment → List (ℕ × ℕ) → Verdict → Finding → List ℕ → List ℕ
lines_text t segments cuts verdict finding reasons =
    topology_text t ++ (cuts_text cuts ++ finding_text finding)
    ++ order_text (journal_of segments) (told_order t segments verdict) ++ reasons

-- The lines of the audit of some files: with the entries of the run that it chose. Of journals that come from no run they
-- have the entries before the stops.
pub record TellsRun (topology : List ℕ) (files : List (List ℕ)) (lines : List ℕ) : Type 0 where
  pub world : Topology
  pub segments : List Segment
  pub cuts : List (ℕ × ℕ)
  pub is_world : IsWorldOf topology files world segments cuts
  pub verdict : Verdict
  pub is_verdict : IsVerdictOn world segments verdict
  pub few : length (told_order world segments verdict) ≤ event_limit
  pub finding : Finding
  pub is_finding : IsFindingOf world segments verdict finding
  pub reasons : List ℕ
  pub are_reasons : AreReasons world segments verdict reasons
  pub are_lines : lines ≡ lines_text world segments cuts verdict finding reasons

-- ---- faults

-- the events of the files are too many for a page
pub record HasTooManyEvents (topology : List ℕ) (files : List (List ℕ)) : Type 0 where
  pub world : Topology
  pub segments : List Segment
  pub cuts : List (ℕ × ℕ)
  pub is_world : IsWorldOf topology files world segments cuts
  pub verdict : Verdict
  pub is_verdict : IsVerdictOn world segments verdict
  pub many : event_limit < length (told_order world segments verdict)

-- why there is no page of the files
abbrev pub IsPageFault : List ℕ → List (List ℕ) → PageFault → Type 0
IsPageFault topology files (Audit fault) = IsAuditFault topology files fault
IsPageFault topology files TooManyEvents = HasTooManyEvents topology files

-- Why no page is written. Nothing was written then, but where the writer failed.
abbrev pub IsPageCause : List ℕ → List (List ℕ) → Option (List ℕ) → Option (List ℕ) → Bool → PageFault → Type 0
IsPageCause topology files old new has_failed (Audit fault) = IsCause topology files old new has_failed fault
IsPageCause topology files old new has_failed TooManyEvents = HasTooManyEvents topology files × (new ≡ old)

-- ---- the page

-- the lines stand in the text, between what stands in every page
pub record IsPage (topology : List ℕ) (files : List (List ℕ)) (text : List ℕ) : Type 0 where
  pub lines : List ℕ
  pub tells : TellsRun topology files lines
  pub around : IsAround lines text

abbrev pub WrotePage : List ℕ → List (List ℕ) → Option (List ℕ) → Option (List ℕ) → Type 0
WrotePage topology files old new = (text : List ℕ) × IsPage topology files text × Appends old new text

-- a page was written and flushed, and nothing else; or the fault of the audit or of the writer is named; or nothing was
-- written and it is named that the events are too many
abbrev pub PageEnds : {W E : Type 0} → List ℕ → List (List ℕ) → Writing W → Writing W → Writing E → Writing E → ℕ → Type 0
PageEnds topology files old new err_old err_new status =
    (WrotePage topology files old.written new.written × (status ≡ 0) × (new.is_flushed ≡ true) × (err_new ≡ err_old))
    ⊎ NamesFault as_fault (IsCause topology files old.written new.written new.has_failed) status err_old err_new
    ⊎ (HasTooManyEvents topology files × (new.written ≡ old.written)
    × NamesPageFault (λ fault. fault ≡ older.TooManyEvents) status err_old err_new)

-- A page: from the bytes of its files to the lines of their run.
use Rattle.std.specs.Prelude.{◌≡◌, ℕ, ◌<◌, ◌≤◌, Bool, true, ◌⊎◌, List, ◌++◌, length, codes, Option}
use Rattle.std.specs.Fmt.{decimal}
use Rattle.std.specs.List.{flat_map}
use Rattle.std.specs.Io.KnownBytes.{Appends}
use Rattle.cmh_frames.specs.Edition.{number_of}
use Rattle.cmh_frames.specs.Texts.{processes_text}
use Rattle.cmh_frames.specs.Topology.{Topology, members_of, sites_of}
use Rattle.cmh_journal.specs.Journal.{Journal}
use Rattle.cmh_audit.specs.declared.step.Step.{Step}
use Rattle.cmh_audit.specs.declared.verdict.Verdict.{Verdict}
use Rattle.cmh_console.specs.Device.{Writing}
use Rattle.cmh_files.specs.AuditTexts.{cuts_text, verdict_text}
use Rattle.cmh_files.specs.Audits.{Audits, IsAuditFault, IsCause}
use Rattle.cmh_files.specs.Explains.{AreReasons}
use Rattle.cmh_page.specs.Held.{AreToldSteps, fates_before, stops_in}
use Rattle.cmh_page.specs.Moments.{moments_text}
use Rattle.cmh_page.specs.PageFaults.{NamesPageFault}
use Rattle.cmh_page.specs.declared.page_fault.PageFault.{PageFault}
use Rattle.cmh_page.specs.declared.page_fault.PageFault.TheVariants.{Audit, TooManyEvents}

-- how many events a page may tell
abbrev pub event_limit : ℕ
event_limit = 20000

-- ---- the lines

abbrev pub site_text : Topology → ℕ → List ℕ
site_text t site = codes "site " ++ decimal site ++ processes_text (members_of t site) ++ codes "\n"

-- the edition, and then each site with its processes
abbrev pub topology_text : Topology → List ℕ
topology_text t = codes "edition " ++ decimal (number_of t.edition) ++ codes "\n" ++ flat_map (site_text t) (sites_of t)

-- Of a world, journals and a verdict on them: the topology, the verdict, the moments of these steps, and the reasons for
-- stops.
pub record AreLines (t : Topology) (journals : List Journal) (cuts : List (ℕ × ℕ)) (verdict : Verdict) (steps : List Step)
    (lines : List ℕ) : Type 0 where
  pub reasons : List ℕ
  pub are_reasons : AreReasons t journals verdict reasons
  pub are : lines ≡ topology_text t ++ (cuts_text cuts ++ verdict_text t.edition verdict)
      ++ moments_text journals (fates_before t (stops_in verdict) journals) steps ++ reasons

-- The lines of the audit of some files: with the steps of a run from which the journals come. Of journals that come from
-- none they have the entries before the stops.
pub record TellsRun (topology : List ℕ) (files : List (List ℕ)) (lines : List ℕ) : Type 0 where
  pub world : Topology
  pub journals : List Journal
  pub cuts : List (ℕ × ℕ)
  pub verdict : Verdict
  pub audits : Audits topology files world journals cuts verdict
  pub steps : List Step
  pub are_steps : AreToldSteps world journals verdict steps
  pub few : length steps ≤ event_limit
  pub are_lines : AreLines world journals cuts verdict steps lines

-- ---- faults

-- the events of the files are too many for a page
pub record HasTooManyEvents (topology : List ℕ) (files : List (List ℕ)) : Type 0 where
  pub world : Topology
  pub journals : List Journal
  pub cuts : List (ℕ × ℕ)
  pub verdict : Verdict
  pub audits : Audits topology files world journals cuts verdict
  pub steps : List Step
  pub are_steps : AreToldSteps world journals verdict steps
  pub many : event_limit < length steps

-- why there is no page of the files
abbrev pub IsPageFault : List ℕ → List (List ℕ) → PageFault → Type 0
IsPageFault topology files (Audit fault) = IsAuditFault topology files fault
IsPageFault topology files TooManyEvents = HasTooManyEvents topology files

-- Why no page is written. Nothing was written then, but where the writer failed.
abbrev pub IsPageCause : List ℕ → List (List ℕ) → Option (List ℕ) → Option (List ℕ) → Bool → PageFault → Type 0
IsPageCause topology files old new has_failed (Audit fault) = IsCause topology files old new has_failed fault
IsPageCause topology files old new has_failed TooManyEvents = HasTooManyEvents topology files × (new ≡ old)

-- ---- the page

-- the lines stand in the text, between what stands in every page
pub record IsAround (lines text : List ℕ) : Type 0 where
  pub head : List ℕ
  pub foot : List ℕ
  pub text_is : text ≡ head ++ lines ++ foot

pub record IsPage (topology : List ℕ) (files : List (List ℕ)) (text : List ℕ) : Type 0 where
  pub lines : List ℕ
  pub tells : TellsRun topology files lines
  pub around : IsAround lines text

abbrev pub WrotePage : List ℕ → List (List ℕ) → Option (List ℕ) → Option (List ℕ) → Type 0
WrotePage topology files old new = (text : List ℕ) × IsPage topology files text × Appends old new text

-- a page was written and flushed, and nothing else, or it is named why it couldn't be
abbrev pub PageEnds : {W E : Type 0} → List ℕ → List (List ℕ) → Writing W → Writing W → Writing E → Writing E → ℕ → Type 0
PageEnds topology files old new err_old err_new status =
    (WrotePage topology files old.written new.written × (status ≡ 0) × (new.is_flushed ≡ true) × (err_new ≡ err_old))
    ⊎ NamesPageFault (IsPageCause topology files old.written new.written new.has_failed) status err_old err_new

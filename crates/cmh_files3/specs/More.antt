-- An audit with more lines after its own: the reasons for the stops, or a run from which the segments come, or the
-- declarations of one.
use Rattle.std.specs.Prelude.{◌≡◌, ℕ, true, ◌⊎◌, List, [], ◌++◌, Option}
use Rattle.std.specs.Io.KnownBytes.{Appends}
use Rattle.cmh_topology3.specs.Topology.{Topology}
use Rattle.cmh_segment3.specs.declared.segment.Segment.{Segment}
use Rattle.cmh_audit3.specs.declared.stops.Stop.{Stop}
use Rattle.cmh_console.specs.Device.{Writing}
use Rattle.cmh_console.specs.Faults.{NamesFault}
use Rattle.cmh_files.specs.AuditTexts.{cuts_text}
use Rattle.cmh_files3.specs.AuditFaults.{as_fault}
use Rattle.cmh_files3.specs.Audits.{IsCause, IsFindingOn, IsWorldOf, finding_text, status_of}
use Rattle.cmh_files3.specs.DeclarationLines.{AreDeclarationLines}
use Rattle.cmh_files3.specs.ReasonLines.{AreReasonLines}
use Rattle.cmh_files3.specs.RunLines.{AreRunLines}
use Rattle.cmh_files3.specs.declared.auditing.Finding.{Finding}
use Rattle.cmh_files3.specs.declared.auditing.Finding.TheVariants.{Accepted, Refused}
use Rattle.cmh_files3.specs.declared.more.More.{More}
use Rattle.cmh_files3.specs.declared.more.More.TheVariants.{Nothing, Reasons, Run, Declarations}

-- after the report on segments that come from a run
abbrev pub IsMoreOfRun : More → Topology → List Segment → List ℕ → Type 0
IsMoreOfRun Nothing t segments text = text ≡ []
IsMoreOfRun Reasons t segments text = text ≡ []
IsMoreOfRun Run t segments text = AreRunLines t segments text
IsMoreOfRun Declarations t segments text = AreDeclarationLines t segments text

-- after the stops of segments that come from none
abbrev pub IsMoreOfStops : More → Topology → List Segment → List Stop → List ℕ → Type 0
IsMoreOfStops Nothing t segments stops text = text ≡ []
IsMoreOfStops Reasons t segments stops text = AreReasonLines t segments stops stops text
IsMoreOfStops Run t segments stops text = text ≡ []
IsMoreOfStops Declarations t segments stops text = text ≡ []

abbrev pub AreMore : More → Topology → List Segment → Finding → List ℕ → Type 0
AreMore more t segments (Accepted report) text = IsMoreOfRun more t segments text
AreMore more t segments (Refused stops) text = IsMoreOfStops more t segments stops text

-- the audit of a topology file and of the journals' files, and more lines of it
pub record TellsMore (more : More) (topology : List ℕ) (files : List (List ℕ)) (world : Topology) (cuts : List (ℕ × ℕ))
    (finding : Finding) (lines : List ℕ) : Type 0 where
  pub segments : List Segment
  pub read : IsWorldOf topology files world segments cuts
  pub finds : IsFindingOn world segments finding
  pub are_more : AreMore more world segments finding lines

-- the status is that of an audit whose lines were written, and more after them
pub record WroteMore (more : More) (topology : List ℕ) (files : List (List ℕ)) (old new : Option (List ℕ))
    (status : ℕ) : Type 0 where
  pub world : Topology
  pub cuts : List (ℕ × ℕ)
  pub finding : Finding
  pub lines : List ℕ
  pub tells : TellsMore more topology files world cuts finding lines
  pub status_is : status ≡ status_of finding
  pub wrote : Appends old new (cuts_text cuts ++ finding_text finding ++ lines)

-- an audit wrote its lines with more after them, flushed, and nothing else, or named why it couldn't
abbrev pub MoreEnds : {W E : Type 0} → More → List ℕ → List (List ℕ) → Writing W → Writing W → Writing E → Writing E → ℕ → Type 0
MoreEnds more topology files old new err_old err_new status =
    (WroteMore more topology files old.written new.written status × (new.is_flushed ≡ true) × (err_new ≡ err_old))
    ⊎ NamesFault as_fault (IsCause topology files old.written new.written new.has_failed) status err_old err_new

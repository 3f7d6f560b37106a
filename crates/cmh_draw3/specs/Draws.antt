-- The command `draw` of edition 3: from the bytes of its files to the text of their picture.
use Rattle.std.specs.Prelude.{◌≡◌, ℕ, true, ◌⊎◌, List, Option}
use Rattle.std.specs.List.{AllZip}
use Rattle.cmh_topology3.specs.Topology.{Topology}
use Rattle.cmh_segment3.specs.Segment.{IsSegmentOf}
use Rattle.cmh_segment3.specs.declared.segment.Segment.{Segment}
use Rattle.cmh_console.specs.Device.{Writing}
use Rattle.cmh_console.specs.Faults.{NamesFault}
use Rattle.cmh_files3.specs.AuditFaults.{as_fault}
use Rattle.cmh_files3.specs.Audits.{Audits, IsAuditFault}
use Rattle.cmh_files3.specs.declared.audit_fault.AuditFault.{AuditFault}
use Rattle.cmh_files3.specs.declared.auditing.Finding.{Finding}
use Rattle.cmh_draw.specs.declared.picture.Kind.{Kind}
use Rattle.cmh_draw.specs.declared.picture.Kind.TheVariants.{Waits, Run}
use Rattle.cmh_draw.specs.declared.picture.Picture.{Picture}
use Rattle.cmh_picture.specs.Draws.{IsPartCause, WrotePart}
use Rattle.cmh_picture.specs.PictureFaults.{NamesPictureFault}
use Rattle.cmh_picture.specs.declared.format.Format.{Format}
use Rattle.cmh_picture.specs.declared.part.Part.{Part}
use Rattle.cmh_draw3.specs.Marks.{IsRunPicture, IsWaitsPicture}

-- each file is that of the segment at its place
abbrev pub AreSegmentsOf : List (List ℕ) → List Segment → Type 0
AreSegmentsOf files segments = AllZip (λ segment file. (left : ℕ) × IsSegmentOf segment left file) segments files

-- the picture of the run has each entry of the files; that of the waits is one of the finding alone
abbrev pub IsPictureOf : Kind → Topology → List (List ℕ) → Finding → Picture → Type 0
IsPictureOf Waits t files finding picture = IsWaitsPicture t finding picture
IsPictureOf Run t files finding picture =
    (segments : List Segment) × AreSegmentsOf files segments × IsRunPicture t segments finding picture

-- the picture is that of an audit of the files
pub record DrawsFiles (topology : List ℕ) (files : List (List ℕ)) (kind : Kind) (picture : Picture) : Type 0 where
  pub world : Topology
  pub cuts : List (ℕ × ℕ)
  pub finding : Finding
  pub audits : Audits topology files world cuts finding
  pub is_picture : IsPictureOf kind world files finding picture

-- what was written is a text of what is asked for of the picture of the files
pub record WroteDrawing (topology : List ℕ) (files : List (List ℕ)) (kind : Kind) (format : Format) (part : Option Part)
    (old new : Option (List ℕ)) : Type 0 where
  pub whole : Picture
  pub draws : DrawsFiles topology files kind whole
  pub shows : WrotePart kind format part whole.marks.items old new

-- the audit ends without a finding, before anything is written
abbrev pub IsCause : {W : Type 0} → List ℕ → List (List ℕ) → Writing W → Writing W → AuditFault → Type 0
IsCause topology files old new fault = IsAuditFault topology files fault × (new ≡ old)

-- a picture was written and flushed, and nothing else; or the fault of the audit is named; or the one why the picture is not
-- written
abbrev pub DrawEnds : {W E : Type 0} → List ℕ → List (List ℕ) → Kind → Format → Option Part → Writing W → Writing W → Writing E → Writing E → ℕ → Type 0
DrawEnds topology files kind format part old new err_old err_new status =
    (WroteDrawing topology files kind format part old.written new.written × (status ≡ 0) × (new.is_flushed ≡ true)
    × (err_new ≡ err_old))
    ⊎ NamesFault as_fault (IsCause topology files old new) status err_old err_new
    ⊎ ((whole : Picture) × DrawsFiles topology files kind whole
    × NamesPictureFault (IsPartCause kind part whole.marks.items old.written new.written new.has_failed) status err_old err_new)

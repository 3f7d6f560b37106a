-- The command `draw` of edition 3 over several epochs: from the bytes of its files to the text of their picture.
use Rattle.std.specs.Prelude.{◌≡◌, ℕ, true, ◌⊎◌, List, Option, None, Some}
use Rattle.cmh_topology3.specs.Topology.{Topology}
use Rattle.cmh_segment3.specs.declared.segment.Segment.{Segment}
use Rattle.cmh_console.specs.Device.{Writing}
use Rattle.cmh_console.specs.Faults.{NamesFault}
use Rattle.cmh_files3.specs.AuditFaults.{as_fault}
use Rattle.cmh_files3.specs.declared.audit_fault.AuditFault.{AuditFault}
use Rattle.cmh_files3.specs.declared.auditing.Finding.{Finding}
use Rattle.cmh_long_audit3.specs.Wholes.{AreWholesOf, AuditsUpTo, IsWholesFault}
use Rattle.cmh_draw.specs.declared.mark.Mark.{Mark}
use Rattle.cmh_draw.specs.declared.picture.Kind.{Kind}
use Rattle.cmh_draw.specs.declared.picture.Kind.TheVariants.{Waits, Run}
use Rattle.cmh_draw.specs.declared.picture.Picture.{Picture}
use Rattle.cmh_picture.specs.Draws.{IsPartCause, WrotePart}
use Rattle.cmh_picture.specs.PictureFaults.{NamesPictureFault}
use Rattle.cmh_picture.specs.declared.format.Format.{Format}
use Rattle.cmh_picture.specs.declared.part.Part.{Part}
use Rattle.cmh_draw3.specs.EpochParts.{IsPartOver, columns_in, epochs_at}
use Rattle.cmh_draw3.specs.Marks.{IsRunPicture, IsWaitsPicture}

-- the part of a run that is drawn: that in which the entries of the epoch stand, or where none is named the one asked for
abbrev pub IsDrawnPart : Option ℕ → Option Part → Topology → List Segment → List Mark → Option Part → Type 0
IsDrawnPart None asked t wholes marks part = part ≡ asked
IsDrawnPart (Some epoch) asked t wholes marks part =
    (own : Part) × IsPartOver (columns_in epoch (epochs_at t wholes) marks) own × (part ≡ Some own)

-- the picture of the run has each entry of the journals, and each turn
pub record DrawsRun (files : List (List (List ℕ))) (epoch : Option ℕ) (t : Topology) (finding : Finding) (asked : Option Part)
    (picture : Picture) (part : Option Part) : Type 0 where
  pub wholes : List Segment
  pub are_wholes : AreWholesOf epoch files wholes
  pub is_picture : IsRunPicture t wholes finding picture
  pub part_is : IsDrawnPart epoch asked t wholes picture.marks.items part

-- that of the waits is one of the finding alone
abbrev pub IsPictureUpTo : Kind → List (List (List ℕ)) → Option ℕ → Topology → Finding → Option Part → Picture → Option Part → Type 0
IsPictureUpTo Waits files epoch t finding asked picture part = IsWaitsPicture t finding picture × (part ≡ asked)
IsPictureUpTo Run files epoch t finding asked picture part = DrawsRun files epoch t finding asked picture part

-- the picture, and the part of it that is written, are those of an audit of the files as journals of one run
pub record DrawsEpochs (topology : List ℕ) (files : List (List (List ℕ))) (epoch : Option ℕ) (kind : Kind) (asked : Option Part)
    (picture : Picture) (part : Option Part) : Type 0 where
  pub world : Topology
  pub finding : Finding
  pub audits : AuditsUpTo epoch topology files world finding
  pub is_picture : IsPictureUpTo kind files epoch world finding asked picture part

-- what was written is a text of that part
pub record WroteEpochs (topology : List ℕ) (files : List (List (List ℕ))) (epoch : Option ℕ) (kind : Kind) (format : Format)
    (asked : Option Part) (old new : Option (List ℕ)) : Type 0 where
  pub whole : Picture
  pub part : Option Part
  pub draws : DrawsEpochs topology files epoch kind asked whole part
  pub shows : WrotePart kind format part whole.marks.items old new

-- the part can't be written
pub record NamesNoEpochs {W E : Type 0} (topology : List ℕ) (files : List (List (List ℕ))) (epoch : Option ℕ) (kind : Kind)
    (asked : Option Part) (old new : Writing W) (err_old err_new : Writing E) (status : ℕ) : Type 0 where
  pub whole : Picture
  pub part : Option Part
  pub draws : DrawsEpochs topology files epoch kind asked whole part
  pub names : NamesPictureFault (IsPartCause kind part whole.marks.items old.written new.written new.has_failed) status err_old err_new

-- there is no picture, and nothing was written
abbrev pub IsNoPicture : {W : Type 0} → List ℕ → Writing W → Writing W → AuditFault → Type 0
IsNoPicture topology old new fault = IsWholesFault topology fault × (new ≡ old)

-- a picture was written and flushed, and nothing else; or the fault of the audit is named; or the one why the picture is not
-- written
abbrev pub LongDrawEnds : {W E : Type 0} → List ℕ → List (List (List ℕ)) → Option ℕ → Kind → Format → Option Part → Writing W → Writing W → Writing E → Writing E → ℕ → Type 0
LongDrawEnds topology files epoch kind format asked old new err_old err_new status =
    (WroteEpochs topology files epoch kind format asked old.written new.written × (status ≡ 0) × (new.is_flushed ≡ true)
    × (err_new ≡ err_old))
    ⊎ NamesFault as_fault (IsNoPicture topology old new) status err_old err_new
    ⊎ NamesNoEpochs topology files epoch kind asked old new err_old err_new status

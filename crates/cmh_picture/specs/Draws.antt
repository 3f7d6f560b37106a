-- The command `draw`: from the bytes of its files to the text of their picture.
use Rattle.std.specs.Prelude.{◌≡◌, ℕ, ◌<◌, ◌≤◌, Bool, true, ◌⊎◌, ⊤, List, length, Option}
use Rattle.std.specs.Io.KnownBytes.{Appends}
use Rattle.cmh_frames.specs.Topology.{Topology}
use Rattle.cmh_journal.specs.Journal.{Journal}
use Rattle.cmh_audit.specs.declared.verdict.Verdict.{Verdict}
use Rattle.cmh_draw.specs.Marks.{IsRunPicture, IsWaitsPicture}
use Rattle.cmh_draw.specs.declared.mark.Mark.{Mark}
use Rattle.cmh_draw.specs.declared.picture.Kind.{Kind}
use Rattle.cmh_draw.specs.declared.picture.Kind.TheVariants.{Waits, Run}
use Rattle.cmh_draw.specs.declared.picture.Picture.{Picture}
use Rattle.cmh_console.specs.Device.{Writing}
use Rattle.cmh_files.specs.Audits.{Audits, IsCause}
use Rattle.cmh_files.specs.declared.audit_fault.AuditFault.TheVariants.{Output, Memory}
use Rattle.cmh_picture.specs.Parts.{marks_in}
use Rattle.cmh_picture.specs.PictureFaults.{NamesPictureFault}
use Rattle.cmh_picture.specs.PictureTexts.{IsDrawn}
use Rattle.cmh_picture.specs.declared.format.Format.{Format}
use Rattle.cmh_picture.specs.declared.part.Part.{Part}
use Rattle.cmh_picture.specs.declared.picture_fault.PictureFault.{PictureFault}
use Rattle.cmh_picture.specs.declared.picture_fault.PictureFault.TheVariants.{Audit, TooManyMarks}

-- the picture of this kind of journals on which this is the verdict: each site, wait, process, frame and entry is
-- marked in it once, and nothing else
abbrev pub IsPictureOf : Kind → Topology → List Journal → Verdict → Picture → Type 0
IsPictureOf Waits t journals verdict picture = IsWaitsPicture t verdict picture
IsPictureOf Run t journals verdict picture = IsRunPicture t journals verdict picture

-- the picture is that of what an audit of the files reads, and of its verdict
pub record DrawsFiles (topology : List ℕ) (files : List (List ℕ)) (kind : Kind) (picture : Picture) : Type 0 where
  pub world : Topology
  pub journals : List Journal
  pub cuts : List (ℕ × ℕ)
  pub verdict : Verdict
  pub audits : Audits topology files world journals cuts verdict
  pub is_picture : IsPictureOf kind world journals verdict picture

-- how many marks a picture of a run may have
abbrev pub mark_limit : ℕ
mark_limit = 20000

-- they are not too many; a picture of waits may have any number
abbrev pub IsFew : Kind → ℕ → Type 0
IsFew Waits count = ⊤
IsFew Run count = count ≤ mark_limit

-- they are too many
abbrev pub IsMany : Kind → ℕ → Type 0
IsMany Waits count = ⊥
IsMany Run count = mark_limit < count

-- what was written is a text of what is asked for of a picture with these marks, and that is not too much
pub record WrotePart (kind : Kind) (format : Format) (part : Option Part) (marks : List Mark) (old new : Option (List ℕ)) : Type 0 where
  pub text : List ℕ
  pub few : IsFew kind (length (marks_in part marks))
  pub is_drawn : IsDrawn format (marks_in part marks) text
  pub wrote : Appends old new text

-- Why it is not written. Nothing was written then, but where the writer failed.
abbrev pub IsPartCause : Kind → Option Part → List Mark → Option (List ℕ) → Option (List ℕ) → Bool → PictureFault → Type 0
IsPartCause kind part marks old new has_failed (Audit Output) = has_failed ≡ true
IsPartCause kind part marks old new has_failed (Audit Memory) = new ≡ old
IsPartCause kind part marks old new has_failed (Audit fault) = ⊥
IsPartCause kind part marks old new has_failed TooManyMarks = IsMany kind (length (marks_in part marks)) × (new ≡ old)

-- what was written is a text of what is asked for of the picture of the files
pub record WroteDrawing (topology : List ℕ) (files : List (List ℕ)) (kind : Kind) (format : Format) (part : Option Part)
    (old new : Option (List ℕ)) : Type 0 where
  pub whole : Picture
  pub draws : DrawsFiles topology files kind whole
  pub shows : WrotePart kind format part whole.marks.items old new

-- what is asked for of the picture of the files has too many marks
pub record HasTooManyMarks (topology : List ℕ) (files : List (List ℕ)) (kind : Kind) (part : Option Part) : Type 0 where
  pub whole : Picture
  pub draws : DrawsFiles topology files kind whole
  pub many : IsMany kind (length (marks_in part whole.marks.items))

-- Why no picture is written. Nothing was written then, but where the writer failed.
abbrev pub IsPictureCause : List ℕ → List (List ℕ) → Kind → Option Part → Option (List ℕ) → Option (List ℕ) → Bool → PictureFault → Type 0
IsPictureCause topology files kind part old new has_failed (Audit fault) = IsCause topology files old new has_failed fault
IsPictureCause topology files kind part old new has_failed TooManyMarks =
    HasTooManyMarks topology files kind part × (new ≡ old)

-- a picture was written and flushed, and nothing else, or it is named why it couldn't be
abbrev pub DrawEnds : {W E : Type 0} → List ℕ → List (List ℕ) → Kind → Format → Option Part → Writing W → Writing W → Writing E → Writing E → ℕ → Type 0
DrawEnds topology files kind format part old new err_old err_new status =
    (WroteDrawing topology files kind format part old.written new.written × (status ≡ 0) × (new.is_flushed ≡ true)
    × (err_new ≡ err_old))
    ⊎ NamesPictureFault (IsPictureCause topology files kind part old.written new.written new.has_failed) status err_old err_new

-- What is written of the picture of files, and why it is not.
use Rattle.std.proofs.Common.{ℕ, Bool, List, Option}
use Rattle.cmh_draw.specs.declared.picture.Kind.{Kind}
use Rattle.cmh_draw.specs.declared.picture.Picture.{Picture}
use Rattle.cmh_files.specs.declared.audit_fault.AuditFault.TheVariants.{Json, Topology, Journal, Set, Output, Memory}
use Rattle.cmh_picture.specs.Draws.{DrawsFiles, IsPartCause, IsPictureCause, WroteDrawing, WrotePart}
use Rattle.cmh_picture.specs.declared.format.Format.{Format}
use Rattle.cmh_picture.specs.declared.part.Part.{Part}
use Rattle.cmh_picture.specs.declared.picture_fault.PictureFault.{PictureFault}
use Rattle.cmh_picture.specs.declared.picture_fault.PictureFault.TheVariants.{Audit, TooManyMarks}

-- of what is written of the picture of the files
pub part_cause : (topology : List ℕ) (files : List (List ℕ)) (kind : Kind) (part : Option Part) (whole : Picture)
    → DrawsFiles topology files kind whole → (old new : Option (List ℕ)) (failed : Bool) (fault : PictureFault)
    → IsPartCause kind part whole.marks.items old new failed fault → IsPictureCause topology files kind part old new failed fault
part_cause topology files kind part whole draws old new failed (Audit Json) cause = absurd cause
part_cause topology files kind part whole draws old new failed (Audit (Topology fault)) cause = absurd cause
part_cause topology files kind part whole draws old new failed (Audit (Journal place fault)) cause = absurd cause
part_cause topology files kind part whole draws old new failed (Audit (Set fault)) cause = absurd cause
part_cause topology files kind part whole draws old new failed (Audit Output) cause = cause
part_cause topology files kind part whole draws old new failed (Audit Memory) cause = (tt, cause)
part_cause topology files kind part whole draws old new failed TooManyMarks cause =
    (record { whole = whole; draws = draws; many = cause.0 }, cause.1)

-- what is written of the picture of the files is its drawing
pub wrote_drawing : (topology : List ℕ) (files : List (List ℕ)) (kind : Kind) (format : Format) (part : Option Part) (whole : Picture)
    → DrawsFiles topology files kind whole → (old new : Option (List ℕ))
    → WrotePart kind format part whole.marks.items old new → WroteDrawing topology files kind format part old new
wrote_drawing topology files kind format part whole draws old new wrote = record { whole = whole; draws = draws; shows = wrote }

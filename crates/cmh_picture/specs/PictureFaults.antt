-- Why no picture is made.
use Rattle.std.specs.Prelude.{◌≡◌, ℕ, List, [], ◌∷◌, ◌++◌, codes}
use Rattle.cmh_console.specs.Device.{Tells, Writing}
use Rattle.cmh_console.specs.Faults.{fault_text, status_of}
use Rattle.cmh_files.specs.AuditFaults.{as_fault}
use Rattle.cmh_picture.specs.declared.picture_fault.PictureFault.{PictureFault}
use Rattle.cmh_picture.specs.declared.picture_fault.PictureFault.TheVariants.{Audit, TooManyMarks}

abbrev pub picture_fault_text : PictureFault → List ℕ
picture_fault_text (Audit fault) = fault_text (as_fault fault)
picture_fault_text TooManyMarks = codes "fault picture"

-- the status with which the program ends
abbrev pub picture_status : PictureFault → ℕ
picture_status (Audit fault) = status_of (as_fault fault)
picture_status TooManyMarks = 3

-- A command ended with a fault that has a cause. It named it, unless the writer failed.
pub record NamesPictureFault {E : Type 0} (is_cause : PictureFault → Type 0) (status : ℕ) (old new : Writing E) : Type 0 where
  pub fault : PictureFault
  pub cause : is_cause fault
  pub status_is : status ≡ picture_status fault
  pub named : Tells old.written new.written new.has_failed (picture_fault_text fault ++ 10 ∷ [])

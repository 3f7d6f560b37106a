-- Why no page is made.
use Rattle.std.specs.Prelude.{◌≡◌, ℕ, List, [], ◌∷◌, ◌++◌, codes}
use Rattle.cmh_console.specs.Device.{Tells, Writing}
use Rattle.cmh_console.specs.Faults.{fault_text, status_of}
use Rattle.cmh_files.specs.AuditFaults.{as_fault}
use Rattle.cmh_page.specs.declared.page_fault.PageFault.{PageFault}
use Rattle.cmh_page.specs.declared.page_fault.PageFault.TheVariants.{Audit, TooManyEvents}

abbrev pub page_fault_text : PageFault → List ℕ
page_fault_text (Audit fault) = fault_text (as_fault fault)
page_fault_text TooManyEvents = codes "fault page"

-- the status with which the program ends
abbrev pub page_status : PageFault → ℕ
page_status (Audit fault) = status_of (as_fault fault)
page_status TooManyEvents = 3

-- A command ended with a fault that has a cause. It named it, unless the writer failed.
pub record NamesPageFault {E : Type 0} (is_cause : PageFault → Type 0) (status : ℕ) (old new : Writing E) : Type 0 where
  pub fault : PageFault
  pub cause : is_cause fault
  pub status_is : status ≡ page_status fault
  pub named : Tells old.written new.written new.has_failed (page_fault_text fault ++ 10 ∷ [])

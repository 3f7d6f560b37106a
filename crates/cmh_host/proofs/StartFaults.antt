-- Why a site does not start.
use Rattle.std.proofs.Common.{◌≡◌, inl, inr, ◌∙◌}
use Rattle.std.specs.Prelude.{◌⊎◌, IfErr, IsErrAnd, Result, Ok, Err}
use Rattle.cmh_console.specs.declared.keeping.NoFile.{NoFile}
use Rattle.cmh_console.specs.declared.keeping.NoFile.TheVariants as files
use Rattle.cmh_setting.specs.SiteFaults.{of_file}
use Rattle.cmh_setting.specs.declared.site_fault.SiteFault.{SiteFault}
use Rattle.cmh_setting.specs.declared.site_fault.SiteFault.TheVariants.{JournalDisk, Listen, Memory}

-- one of the faults of a start
abbrev pub IsStartFault : SiteFault → Type 0
IsStartFault fault = (fault ≡ Listen) ⊎ (fault ≡ JournalDisk) ⊎ (fault ≡ Memory)

-- the same one comes to the caller
pub start_err : {X : Type 0} (r : Result X SiteFault) (lower : SiteFault) → IsErrAnd r (λ fault. fault ≡ lower) → IsStartFault lower → IfErr r IsStartFault
start_err (Ok x) lower is h = tt
start_err (Err fault) lower is (inl listen) = inl (is ∙ listen)
start_err (Err fault) lower is (inr (inl disk)) = inr (inl (is ∙ disk))
start_err (Err fault) lower is (inr (inr memory)) = inr (inr (is ∙ memory))

-- that of a journal
abbrev pub IsOpenFault : SiteFault → Type 0
IsOpenFault fault = (fault ≡ JournalDisk) ⊎ (fault ≡ Memory)

pub file_err : {X : Type 0} (r : Result X SiteFault) (lower : NoFile) → IsErrAnd r (λ fault. fault ≡ of_file lower) → IfErr r IsOpenFault
file_err (Ok x) lower is = tt
file_err (Err fault) files.Disk is = inl is
file_err (Err fault) files.Memory is = inr is

pub open_err : {X : Type 0} (r : Result X SiteFault) (lower : SiteFault) → IsErrAnd r (λ fault. fault ≡ lower) → IsOpenFault lower → IfErr r IsStartFault
open_err r lower is h = start_err r lower is (inr h)

-- memory was refused
pub memory_err : {X : Type 0} (r : Result X SiteFault) → IsErrAnd r (λ fault. fault ≡ Memory) → IfErr r IsStartFault
memory_err (Ok x) is = tt
memory_err (Err fault) is = inr (inr is)

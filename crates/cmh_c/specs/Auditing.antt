-- What an audit tells of files that stand one after the other.
use Rattle.std.specs.Prelude.{◌≡◌, ◌≢◌, ℕ, ◌⊎◌, List, [], ◌∷◌, ◌++◌, length, map}
use Rattle.std.specs.List.{concat, sum}
use Rattle.cmh_files.specs.Audits.{IsAuditFault, TellsAudit}
use Rattle.cmh_console.specs.Faults.{fault_text}
use Rattle.cmh_files.specs.AuditFaults.{as_fault}
use Rattle.cmh_files.specs.declared.audit_fault.AuditFault.{AuditFault}
use Rattle.cmh_files.specs.declared.audit_fault.AuditFault.TheVariants.{Memory}

-- the line of the files' first fault
abbrev pub SaysFault : List ℕ → List (List ℕ) → List ℕ → ℕ → Type 0
SaysFault world files text status =
    (fault : AuditFault) × IsAuditFault world files fault × (fault ≢ Memory)
    × (text ≡ fault_text (as_fault fault) ++ 10 ∷ []) × (status ≡ 3)

-- the bytes are those of files that have these lengths, and this is what is said of the files
pub record Says (world bytes lens text : List ℕ) (status : ℕ) : Type 0 where
  pub files : List (List ℕ)
  pub bytes_are : bytes ≡ concat files
  pub lens_are : lens ≡ map length files
  pub says : TellsAudit world files text status ⊎ SaysFault world files text status

-- why nothing is said; out of memory may stand in place of an answer
abbrev pub AreNoFiles : ℕ → List ℕ → List ℕ → Type 0
AreNoFiles code bytes lens = (code ≡ 11) ⊎ ((code ≡ 30) × (sum lens ≢ length bytes))

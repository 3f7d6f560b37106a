-- What is found on the way to an answer.
use Rattle.std.specs.Prelude.{◌≡◌, ℕ, List, Option, Some, None, ⊤}
use Rattle.cmh_frames.specs.declared.frame.Frame.{Frame}
use Rattle.cmh_journal.specs.declared.tail.Tail as tails
use Rattle.cmh_journal.specs.declared.tail.Tail.TheVariants.{Whole, Cut as Cut_tail}
use Rattle.cmh_files.specs.declared.audit_fault.AuditFault.{AuditFault}
use Rattle.cmh_files.specs.declared.audit_fault.AuditFault.TheVariants.{Journal as NoJournal, Memory}
use Rattle.cmh_files.specs.declared.reason.Reason.{Reason}
use Rattle.cmh_files.specs.declared.reason.Reason.TheVariants.{NotNext, NothingUnderWay}
use Rattle.cmh_files.specs.declared.shown.Rest.{Rest}
use Rattle.cmh_files.specs.declared.shown.Rest.TheVariants.{Nothing, Cut}
use Rattle.cmh_files.specs.Audits.{IsFirstFaulty}

-- the first fault of the journals' files
abbrev pub IsFaultOfFiles : List (List ℕ) → AuditFault → Type 0
IsFaultOfFiles files (NoJournal place fault) = IsFirstFaulty files place fault
IsFaultOfFiles files Memory = ⊤
IsFaultOfFiles files fault = ⊥

-- of a site that waits for the next frame of the link from another
abbrev pub awaits : ℕ → Option Frame → Reason
awaits from (Some next) = NotNext from next
awaits from None = NothingUnderWay from

-- a tail as it is shown
abbrev pub IsRestOf : tails.Tail → Rest → Type 0
IsRestOf Whole rest = rest ≡ Nothing
IsRestOf (Cut_tail count) rest = rest ≡ Cut count

-- What is found of a segment that is to be shown, and of a site that stops.
use Rattle.std.specs.Prelude.{ℕ, zero, suc, Option, None, Some}
use Rattle.cmh_journal.specs.declared.journal.JournalFault.TheVariants.{BadHeader, BadEntry}
use Rattle.cmh_model3.specs.declared.frame.Message.{Message}
use Rattle.cmh_segment3.specs.declared.segment.SegmentFault.{SegmentFault}
use Rattle.cmh_segment3.specs.declared.segment.SegmentFault.TheVariants as segments
use Rattle.cmh_files.specs.declared.show_fault.ShowFault.{ShowFault}
use Rattle.cmh_files.specs.declared.show_fault.ShowFault.TheVariants.{Journal as NoJournal, Memory}
use Rattle.cmh_files.specs.declared.shown.Rest.{Rest}
use Rattle.cmh_files.specs.declared.shown.Rest.TheVariants.{Nothing, Cut}
use Rattle.cmh_files3.specs.declared.reason.Reason.{Reason}
use Rattle.cmh_files3.specs.declared.reason.Reason.TheVariants.{NotNext, NothingUnderWay}

-- what stands after the last entry, where so many bytes do
abbrev pub rest_of : ℕ → Rest
rest_of zero = Nothing
rest_of (suc n) = Cut (suc n)

-- the fault that that of the segment at this place in the command comes to
abbrev pub fault_at : ℕ → SegmentFault → ShowFault
fault_at place segments.BadHead = NoJournal place BadHeader
fault_at place (segments.Damaged offset) = NoJournal place (BadEntry offset)
fault_at place segments.Memory = Memory

-- of a site that waits for the next message of the link from another
abbrev pub awaits : ℕ → Option Message → Reason
awaits from (Some next) = NotNext from next
awaits from None = NothingUnderWay from

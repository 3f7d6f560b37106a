use Rattle.std.proofs.Common.{ℕ, List}
use Rattle.cmh_segment3.specs.declared.segment.Segment.{Segment}
use Rattle.cmh_segment3.specs.declared.segment.SegmentFault.TheVariants.{BadHead, Damaged}
use Rattle.cmh_segment3.specs.Segment.{IsFault, IsSegmentOf}
use Rattle.cmh_inputs.proofs.SegmentFiles.{no_fault}
use Rattle.cmh_inputs.proofs.between_reads.segment_of.Goals as goal

no_damage : (bytes : List ℕ) (g : Segment) (left offset : ℕ) → IsSegmentOf g left bytes → IsFault bytes (Damaged offset) → ⊥
no_damage bytes g left offset is fault = no_fault bytes g left (Damaged offset) is fault (λ e. cc e)

pub returns-in-Err-BadHead : goal.returns-in-Err-BadHead
returns-in-Err-BadHead c = λ segment left is.
    no_fault c.args.bytes.now segment left BadHead is (rw c.in-Err-BadHead.field-0-is at c.in-Err-BadHead.ensures.fault) (λ e. cc e)

pub returns-in-Err-Damaged : goal.returns-in-Err-Damaged
returns-in-Err-Damaged c = λ segment left is.
    no_damage c.args.bytes.now segment left _ is (rw c.in-Err-Damaged.field-0-is at c.in-Err-Damaged.ensures.fault)

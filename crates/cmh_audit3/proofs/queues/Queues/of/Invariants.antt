use Rattle.std.proofs.Common.{◌≡◌, ℕ}
use Rattle.std.specs.Vec.{vec_len}
use Rattle.cmh_audit3.specs.Inner.Queues.{journal_over, queue_at}
use Rattle.cmh_audit3.specs.Journals.{journal_of}
use Rattle.cmh_audit3.proofs.queues.Queues.of.Given as goal

-- the queues have the entries of the segments behind those that are left
abbrev pub invariant-loop-segment : goal.invariant-loop-segment
invariant-loop-segment l = (s : ℕ) → journal_over l.left.items (queue_at l.queues) s ≡ journal_of l.fn.segments.items s

abbrev pub decreases-loop-segment : goal.decreases-loop-segment
decreases-loop-segment l = vec_len l.left

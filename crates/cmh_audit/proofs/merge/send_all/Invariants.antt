use Rattle.std.proofs.Common.{length}
use Rattle.cmh_audit.proofs.SendLemmas.{Sending}
use Rattle.cmh_audit.proofs.merge.send_all.Given as goal

abbrev pub invariant-loop-to : goal.invariant-loop-to
invariant-loop-to l = Sending l.places l.entry.sent l.left.sent l.fn.links l.links l.fn.schedule.ready.items l.schedule.ready.items l.fn.schedule.lacks.items l.schedule.lacks.items l.from

abbrev pub decreases-loop-to : goal.decreases-loop-to
decreases-loop-to l = length l.left.sent

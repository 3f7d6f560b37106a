use Rattle.std.proofs.Common.{◌≡◌}
use Rattle.cmh_cluster.proofs.cluster.look_at_receipts.Given as goal

abbrev pub invariant-loop-member : goal.invariant-loop-member
invariant-loop-member g l = l.look.places ≡ l.member-index

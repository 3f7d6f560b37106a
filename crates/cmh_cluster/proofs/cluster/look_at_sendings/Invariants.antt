use Rattle.std.proofs.Common.{◌≡◌}
use Rattle.cmh_cluster.proofs.cluster.look_at_sendings.Given as goal

abbrev pub invariant-loop-member : goal.invariant-loop-member
invariant-loop-member g l = record {
  received : l.look.received ≡ l.fn.receipts.places;
  places : l.look.places ≡ l.member-index;
}

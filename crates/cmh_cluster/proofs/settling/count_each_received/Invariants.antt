use Rattle.std.proofs.Common.{◌≡◌, ℕ, ◌<◌, ◌≤◌, get_or}
use Rattle.cmh_cluster.specs.Settling.{CountsReceipts}
use Rattle.cmh_cluster.specs.declared.settling.Receipts.{Receipts}
use Rattle.cmh_cluster.proofs.settling.count_each_received.Given as goal

abbrev pub invariant-loop-receipts : goal.invariant-loop-receipts
invariant-loop-receipts l = record {
  done : (k : ℕ) (d e : Receipts) → k < l.receipts-index → CountsReceipts l.entries (get_or l.initial.row k d) (get_or l.row k e);
  rest : (k : ℕ) (d : Receipts) → l.receipts-index ≤ k → get_or l.row k d ≡ get_or l.initial.row k d;
}

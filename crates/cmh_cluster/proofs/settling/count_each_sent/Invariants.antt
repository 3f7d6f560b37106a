use Rattle.std.proofs.Common.{◌≡◌, ℕ, ◌<◌, ◌≤◌, get_or}
use Rattle.cmh_cluster.specs.Settling.{CountsSendings}
use Rattle.cmh_cluster.specs.declared.settling.Sendings.{Sendings}
use Rattle.cmh_cluster.proofs.settling.count_each_sent.Given as goal

abbrev pub invariant-loop-sendings : goal.invariant-loop-sendings
invariant-loop-sendings l = record {
  done : (k : ℕ) (d e : Sendings) → k < l.sendings-index → CountsSendings l.entries (get_or l.initial.row k d) (get_or l.row k e);
  rest : (k : ℕ) (d : Sendings) → l.sendings-index ≤ k → get_or l.row k d ≡ get_or l.initial.row k d;
}

use Rattle.std.specs.Prelude.{◌≡◌}
use Rattle.cmh_cluster.proofs.cluster.Cluster.start_all.Given as goal

abbrev pub invariant-loop-opened : goal.invariant-loop-opened
invariant-loop-opened g l = l.self.topology ≡ l.initial.self.topology

use Rattle.std.specs.Prelude.{◌≡◌}
use Rattle.cmh_cluster.proofs.cluster.Cluster.settle.Given as goal

abbrev pub invariant-loop-turn : goal.invariant-loop-turn
invariant-loop-turn g l = l.self.topology ≡ l.initial.self.topology

use Rattle.std.specs.Prelude.{⊤}
use Rattle.cmh_cluster.proofs.cluster.Cluster.play.Given as goal

abbrev pub invariant-loop-member : goal.invariant-loop-member
invariant-loop-member g l = ⊤

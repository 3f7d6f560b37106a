use Rattle.cmh_cluster.specs.ClusterEndings.{NamesClosed}
use Rattle.cmh_cluster.proofs.cluster.Cluster.write_closed.Given as goal

-- links were named so far
abbrev pub invariant-loop-k : goal.invariant-loop-k
invariant-loop-k g l = NamesClosed l.fn.out.written l.out.written

abbrev pub invariant-loop-i : goal.invariant-loop-i
invariant-loop-i g l = NamesClosed l.fn.out.written l.out.written

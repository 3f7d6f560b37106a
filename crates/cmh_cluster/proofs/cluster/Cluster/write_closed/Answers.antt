use Rattle.cmh_cluster.proofs.ClusterEndings.{one_more_closed}
use Rattle.cmh_cluster.proofs.cluster.Cluster.write_closed.Goals as goal
use Rattle.cmh_cluster.proofs.cluster.Cluster.write_closed.Goals.{in-Some+in_ok-write_line, in_default}

pub loop-k-preserved : goal.loop-k-preserved
loop-k-preserved g c = elim c.match-fault_of.branch [
  | in-Some+in_ok-write_line w ↦ rw w.out-is
      (one_more_closed _ _ _ (record { from = c.from-item.result; to = c.to-item.result; fault = w.in-Some.fault }) c.loop-k.invariant w.in_ok-write_line.ensures.bytes)
  | in_default w ↦ rw w.out-is c.loop-k.invariant
]

use Rattle.cmh_cluster.specs.declared.cluster_fault.ClusterFault.TheVariants.{Memory}
use Rattle.cmh_cluster.proofs.ClusterEndings.{start_fault_err}
use Rattle.cmh_cluster.proofs.cluster.run_sites.Goals as goal

pub returns-in_err-cluster-clause-fault : goal.returns-in_err-cluster-clause-fault
returns-in_err-cluster-clause-fault g c = start_fault_err _ _ _ _ c.from_residual.result Memory c.from_residual.ensures.1 tt

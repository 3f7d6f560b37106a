use Rattle.cmh_cluster.proofs.ClusterEndings.{declared_by}
use Rattle.cmh_cluster.proofs.cluster.Cluster.declared.Goals as goal

pub returns-then-get-number-clause-answered : goal.returns-then-get-number-clause-answered
returns-then-get-number-clause-answered g c =
    declared_by _ _ _ c.get.ensures.value c.if-get-number.true c.declared.result c.declared.ensures.site

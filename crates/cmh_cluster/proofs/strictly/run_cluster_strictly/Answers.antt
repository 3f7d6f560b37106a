use Rattle.std.proofs.Common.{inl, inr}
use Rattle.cmh_cluster.proofs.strictly.run_cluster_strictly.Goals as goal

pub returns-else-end-eq0-clause-ends : goal.returns-else-end-eq0-clause-ends
returns-else-end-eq0-clause-ends g c = inr (inl c.run_cluster_counting-end.ensures.ends)

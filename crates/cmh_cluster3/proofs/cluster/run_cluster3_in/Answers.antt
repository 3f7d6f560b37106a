use Rattle.std.proofs.Common.{inl}
use Rattle.cmh_cluster3.proofs.Endings.{audited}
use Rattle.cmh_cluster3.proofs.cluster.run_cluster3_in.Goals as goal

pub returns-in-Ok-Read-clause-ends : goal.returns-in-Ok-Read-clause-ends
returns-in-Ok-Read-clause-ends g c =
    inl (audited _ _ _ _ _ c.cluster_into.new.out _ _ _ _ _ _ c.run_audit3.ensures.ends (cc) (rw c.in-Ok-Read.field-0-is at c.in-Ok-Read.ensures.played))

pub returns-in-Ok-Read-clause-audit : goal.returns-in-Ok-Read-clause-audit
returns-in-Ok-Read-clause-audit g c = λ accepted.
    audited _ _ _ _ _ c.cluster_into.new.out _ _ _ _ _ _ c.run_audit3.ensures.ends (cc) (rw c.in-Ok-Read.field-0-is at c.in-Ok-Read.ensures.played)

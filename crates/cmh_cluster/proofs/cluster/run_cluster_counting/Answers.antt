use Rattle.std.proofs.Common.{inl, inr, refl}
use Rattle.cmh_cluster.specs.declared.cluster_fault.ClusterFault.TheVariants.{Memory}
use Rattle.cmh_cluster.proofs.ClusterEndings.{audited}
use Rattle.cmh_cluster.proofs.cluster.run_cluster_counting.Goals as goal

pub returns-in-Ok-Read-clause-ends : goal.returns-in-Ok-Read-clause-ends
returns-in-Ok-Read-clause-ends g c =
    inl (audited _ _ _ c.cluster_into-played.new.out _ _ _ _ _ _ c.run_audit.ensures.ends (cc) (rw c.in-Ok-Read.field-0-is at c.in-Ok-Read.ensures.played))

pub returns-in-Ok-Read-clause-audit : goal.returns-in-Ok-Read-clause-audit
returns-in-Ok-Read-clause-audit g c = λ accepted.
    audited _ _ _ c.cluster_into-played.new.out _ _ _ _ _ _ c.run_audit.ensures.ends (cc) (rw c.in-Ok-Read.field-0-is at c.in-Ok-Read.ensures.played)

pub returns-in-Err-clause-ends : goal.returns-in-Err-clause-ends
returns-in-Err-clause-ends g c =
    inr (inr (record { fault = Memory; cause = inl refl; status_is = c.name_on.ensures.status; named = c.name_on.ensures.named }))

pub returns-in-Err-clause-status : goal.returns-in-Err-clause-status
returns-in-Err-clause-status g c = c.name_on.ensures.ends

pub returns-in-Err-clause-audit : goal.returns-in-Err-clause-audit
returns-in-Err-clause-audit g c = λ none. absurd (c.name_on.ensures.fails none)

pub returns-clause-status : goal.returns-clause-status
returns-clause-status g c = c.name_on-in-Err-played.ensures.ends

pub returns-clause-audit : goal.returns-clause-audit
returns-clause-audit g c = λ none. absurd (c.name_on-in-Err-played.ensures.fails none)

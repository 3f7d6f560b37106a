use Rattle.std.proofs.Common.{List, subst, sym}
use Rattle.std.specs.List.{All}
use Rattle.cmh_segment3.specs.declared.segment.Segment.{Segment}
use Rattle.cmh_history3.specs.Chains.{IsReadEpoch}
use Rattle.cmh_history3.specs.Findings.{Finds}
use Rattle.cmh_history3.specs.EpochSet.{IsEpochSet}
use Rattle.cmh_history3.proofs.Reading.{read_epochs}
use Rattle.cmh_history3.proofs.part.audit_part.Goals as goal

pub audit_chain-requires : goal.audit_chain-requires
audit_chain-requires g c =
    let t = c.args.topology.now in
    let epochs = c.in_ok-epochs.epochs.items in
    let sets = subst (All (IsEpochSet t)) c.deref.ensures.value c.in_ok-check_sets.ensures in
    (c.type_bounds.sync-R, subst (All (IsReadEpoch t)) (sym c.deref-2.ensures.value) (read_epochs t c.args.journals.items epochs c.requires c.in_ok-epochs.ensures sets))

pub returns-clause-read : goal.returns-clause-read
returns-clause-read g c =
    let t = c.args.topology.now in
    let epochs = c.in_ok-epochs.epochs.items in
    let sets = subst (All (IsEpochSet t)) c.deref.ensures.value c.in_ok-check_sets.ensures in
    read_epochs t c.args.journals.items epochs c.requires c.in_ok-epochs.ensures sets

pub returns-clause-found : goal.returns-clause-found
returns-clause-found g c =
    let t = c.args.topology.now in
    subst (λ (l : List (List Segment)). Finds t l c.in_ok-verdict.verdict) c.deref-2.ensures.value c.in_ok-verdict.ensures

use Rattle.std.proofs.Common.{◌≡◌, List, subst, sym}
use Rattle.std.specs.List.{All}
use Rattle.std.specs.Prelude.{Some, slice_get}
use Rattle.cmh_segment3.specs.declared.segment.Segment.{Segment}
use Rattle.cmh_history3.specs.Chains.{AreOneRun, IsReadEpoch}
use Rattle.cmh_history3.specs.Findings.{Finds, IsApart, IsRefused}
use Rattle.cmh_history3.specs.declared.chain.ChainVerdict.{ChainVerdict}
use Rattle.cmh_history3.specs.EpochSet.{IsEpochSet}
use Rattle.cmh_history3.specs.Inner.Sets.{BeginWorld}
use Rattle.cmh_history3.proofs.Reading.{one_history, read_epochs}
use Rattle.cmh_history3.proofs.verdict.audit_history.Goals as goal

pub audit_chain-requires : goal.audit_chain-requires
audit_chain-requires g c =
    let t = c.args.topology.now in
    let epochs = c.in_ok-epochs.epochs.items in
    let sets = subst (All (IsEpochSet t)) c.deref.ensures.value c.in_ok-check_epochs.ensures.sets in
    (c.type_bounds.sync-R, subst (All (IsReadEpoch t)) (sym c.deref-2.ensures.value) (read_epochs t c.args.journals.items epochs c.requires c.in_ok-epochs.ensures sets))

pub returns-in-Accepted : goal.returns-in-Accepted
returns-in-Accepted g c =
    let t = c.args.topology.now in
    let epochs = c.in_ok-epochs.epochs.items in
    let begin = subst (BeginWorld t) c.deref.ensures.value c.in_ok-check_epochs.ensures.first in
    let one = subst (λ (v : ChainVerdict). Finds t c.deref-2.result.now v) c.in-Accepted.is c.in_ok-audit_chain.ensures in
    one_history t c.args.journals.items epochs c.first_law.ensures.runs c.in_ok-epochs.ensures begin (subst (λ (l : List (List Segment)). AreOneRun t l) c.deref-2.ensures.value one)

pub returns-in-Refused : goal.returns-in-Refused
returns-in-Refused g c =
    let t = c.args.topology.now in
    let epochs = c.in_ok-epochs.epochs.items in
    let found = subst (λ (v : ChainVerdict). Finds t c.deref-2.result.now v) c.in-Refused.is c.in_ok-audit_chain.ensures in
    let refused = subst (λ (l : List (List Segment)). IsRefused t l c.in-Refused.place) c.deref-2.ensures.value found in
    record {
      epochs = epochs;
      are = c.in_ok-epochs.ensures;
      place = c.in-Refused.place;
      refused = refused;
      named = c.epoch_at.ensures refused.segments (subst (λ (l : List (List Segment)). slice_get l c.in-Refused.place ≡ Some refused.segments) (sym c.deref-in-Refused.ensures.value) refused.there);
    }

pub returns : goal.returns
returns g c =
    let t = c.args.topology.now in
    let epochs = c.in_ok-epochs.epochs.items in
    let found = subst (λ (v : ChainVerdict). Finds t c.deref-2.result.now v) c.in-Apart.is c.in_ok-audit_chain.ensures in
    let apart = subst (λ (l : List (List Segment)). IsApart t l c.in-Apart.place) c.deref-2.ensures.value found in
    record {
      epochs = epochs;
      are = c.in_ok-epochs.ensures;
      place = c.in-Apart.place;
      apart = apart;
      named = c.epoch_at-in-Apart.ensures apart.next (subst (λ (l : List (List Segment)). slice_get l c.in-Apart.place ≡ Some apart.next) (sym c.deref-in-Apart.ensures.value) apart.there);
    }

use Rattle.std.proofs.Common.{subst, take_all}
use Rattle.std.specs.List.{All}
use Rattle.std.proofs.lemmas.List.Elements.{All-more}
use Rattle.cmh_history3.specs.EpochSet.{IsEpochSet}
use Rattle.cmh_history3.proofs.part.check_sets.Goals as goal

pub loop-epoch-preserved : goal.loop-epoch-preserved
loop-epoch-preserved c =
    let is_set = IsEpochSet c.args.topology.now in
    let one = subst is_set c.as_slice.ensures c.in_ok-check_epoch.ensures in
    All-more is_set c.args.epochs.now c.loop-epoch.epoch-index c.epoch-item.result c.loop-epoch-test.true c.loop-epoch.invariant (subst is_set c.epoch-item.is one)

pub returns : goal.returns
returns c =
    subst (All (IsEpochSet c.args.topology.now)) (take_all c.loop-epoch.epoch-index c.args.epochs.now c.loop-epoch-test.false) c.loop-epoch.invariant

use Rattle.std.proofs.Common.{take}
use Rattle.std.specs.List.{All}
use Rattle.cmh_history3.specs.EpochSet.{IsEpochSet}
use Rattle.cmh_history3.proofs.verdict.check_epochs.Given as goal

-- the epochs so far are such
abbrev pub invariant-loop-epoch : goal.invariant-loop-epoch
invariant-loop-epoch l = All (IsEpochSet l.topology) (take l.epoch-index l.epochs)

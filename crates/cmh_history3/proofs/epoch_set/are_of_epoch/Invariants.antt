use Rattle.std.proofs.Common.{take}
use Rattle.cmh_history3.specs.EpochSet.{AreOfEpoch}
use Rattle.cmh_history3.proofs.epoch_set.are_of_epoch.Given as goal

-- the segments so far are of the epoch
abbrev pub invariant-loop-segment : goal.invariant-loop-segment
invariant-loop-segment l = AreOfEpoch l.epoch (take l.segment-index l.segments)

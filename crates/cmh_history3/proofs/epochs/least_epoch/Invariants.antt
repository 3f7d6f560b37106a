use Rattle.std.proofs.Common.{take}
use Rattle.std.specs.List.{All}
use Rattle.cmh_history3.specs.Epochs.{IsNotBefore}
use Rattle.cmh_history3.proofs.epochs.least_epoch.Given as goal

-- it is the least so far
abbrev pub invariant-loop-journal : goal.invariant-loop-journal
invariant-loop-journal l = All (IsNotBefore l.least) (take l.journal-index l.journals)

use Rattle.std.proofs.Common.{take}
use Rattle.std.specs.List.{All}
use Rattle.cmh_history3.specs.Epochs.{IsClosed}
use Rattle.cmh_history3.proofs.epochs.have_closed.Given as goal

-- the sites so far have ended it
abbrev pub invariant-loop-journal : goal.invariant-loop-journal
invariant-loop-journal l = All (IsClosed l.epoch) (take l.journal-index l.journals)

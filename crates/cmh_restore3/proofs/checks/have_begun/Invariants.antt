use Rattle.std.proofs.Common.{take}
use Rattle.std.specs.List.{All}
use Rattle.cmh_restore3.specs.Restored.{StandsFor}
use Rattle.cmh_restore3.proofs.checks.have_begun.Given as goal

-- the segments so far stand for it
abbrev pub invariant-loop-head : goal.invariant-loop-head
invariant-loop-head l = All (StandsFor l.epoch) (take l.head-index l.heads)

use Rattle.std.proofs.Common.{take}
use Rattle.cmh_waits3.specs.Inner.Summaries.{IsSummary}
use Rattle.cmh_waits3.proofs.summary.Summary.of_waits.Given as goal

-- that of those so far
abbrev pub invariant-loop-wait : goal.invariant-loop-wait
invariant-loop-wait l = IsSummary l.members (take l.wait-index l.waits) l.summary

use Rattle.std.proofs.Common.{ℕ, ◌<◌}
use Rattle.cmh_files.specs.Inner.Steps.{LacksNone}
use Rattle.cmh_files.proofs.lowest.lacking.Given as goal

abbrev pub invariant-loop-sender : goal.invariant-loop-sender
invariant-loop-sender l = (a : ℕ) → a < l.sender → LacksNone l.walks a

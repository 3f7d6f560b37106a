use Rattle.std.proofs.Common.{◌≡◌}
use Rattle.cmh_restore3.proofs.keeping.begin_one.Given as goal

-- nothing is begun so far
abbrev pub invariant-loop-segment : goal.invariant-loop-segment
invariant-loop-segment g l = l.keeper ≡ l.initial.keeper

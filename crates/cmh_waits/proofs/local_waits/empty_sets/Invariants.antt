use Rattle.std.proofs.Common.{◌≡◌, [], replicate}
use Rattle.cmh_waits.proofs.local_waits.empty_sets.Given as goal

-- as many sets as turns
abbrev pub invariant-loop : goal.invariant-loop
invariant-loop l = l.sets.items ≡ replicate l.counter []

use Rattle.std.proofs.Common.{◌≡◌, ◌++◌, drop, take}
use Rattle.cmh_c.proofs.numbers.put_processes.Given as goal

-- those so far stand over the first
abbrev pub invariant-loop-place : goal.invariant-loop-place
invariant-loop-place l = l.out ≡ take l.place l.processes ++ drop l.place l.fn.out

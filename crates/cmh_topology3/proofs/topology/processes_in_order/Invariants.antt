use Rattle.std.proofs.Common.{◌≡◌, take}
use Rattle.cmh_topology3.proofs.topology.processes_in_order.Given as goal

-- the numbers so far
abbrev pub invariant-loop-number : goal.invariant-loop-number
invariant-loop-number l = l.processes.items ≡ take l.number-index l.numbers

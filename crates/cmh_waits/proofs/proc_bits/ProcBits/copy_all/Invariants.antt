use Rattle.std.proofs.Common.{◌≡◌, take}
use Rattle.cmh_waits.proofs.proc_bits.ProcBits.copy_all.Given as goal

-- the sets so far
abbrev pub invariant-loop-set : goal.invariant-loop-set
invariant-loop-set l = l.others.items ≡ take l.set-index l.sets

use Rattle.std.proofs.Common.{◌≤◌, length}
use Rattle.cmh_inputs.proofs.growing.have_changed.Given as goal

abbrev pub invariant-loop-i : goal.invariant-loop-i
invariant-loop-i g l = l.i ≤ length l.read

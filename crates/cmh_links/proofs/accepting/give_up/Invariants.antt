use Rattle.std.proofs.Common.{◌≤◌, vec_len}
use Rattle.cmh_links.proofs.accepting.give_up.Given as goal

abbrev pub invariant-loop-left : goal.invariant-loop-left
invariant-loop-left g l = record {
  within : l.left ≤ vec_len l.readers;
  fewer : vec_len l.readers ≤ vec_len l.fn.readers;
}

abbrev pub decreases-loop-left : goal.decreases-loop-left
decreases-loop-left g l = l.left

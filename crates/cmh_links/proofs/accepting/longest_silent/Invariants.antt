use Rattle.std.proofs.Common.{◌<◌, length, IfSome}
use Rattle.cmh_links.proofs.accepting.longest_silent.Given as goal

abbrev pub invariant-loop-place : goal.invariant-loop-place
invariant-loop-place g l = IfSome l.longest (λ found. found.0 < length l.readers)

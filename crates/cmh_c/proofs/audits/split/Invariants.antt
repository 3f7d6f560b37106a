use Rattle.std.proofs.Common.{map}
use Rattle.cmh_c.proofs.Files.{SplitSoFar}
use Rattle.cmh_c.proofs.audits.split.Given as goal

abbrev pub invariant-loop-len : goal.invariant-loop-len
invariant-loop-len l = SplitSoFar (map (λ file. file.items) l.split.items) l.rest l.files l.lens l.len-index

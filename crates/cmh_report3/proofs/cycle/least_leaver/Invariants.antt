use Rattle.std.proofs.Common.{take}
use Rattle.cmh_report3.specs.Inner.Leavers.{IsLeastIn}
use Rattle.cmh_report3.specs.Inner.Pairs.{has_pair}
use Rattle.cmh_report3.proofs.cycle.least_leaver.Given as goal

abbrev pub invariant-loop-place : goal.invariant-loop-place
invariant-loop-place l = IsLeastIn (has_pair l.left) (take l.place l.members) l.least

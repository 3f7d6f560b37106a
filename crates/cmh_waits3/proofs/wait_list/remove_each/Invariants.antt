use Rattle.std.proofs.Common.{◌≡◌, take}
use Rattle.cmh_waits3.specs.Rows.{others_than}
use Rattle.cmh_waits3.proofs.wait_list.remove_each.Given as goal

-- those so far were taken out
abbrev pub invariant-loop-target : goal.invariant-loop-target
invariant-loop-target l = l.waits.items ≡ others_than (take l.target-index l.targets) l.fn.waits.items

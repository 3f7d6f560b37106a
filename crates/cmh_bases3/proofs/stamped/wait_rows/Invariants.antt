use Rattle.std.proofs.Common.{◌≡◌, take}
use Rattle.std.specs.List.{flat_map}
use Rattle.cmh_controller3.specs.Controller.{state_of}
use Rattle.cmh_bases3.specs.Inner.Rows.{waits_from}
use Rattle.cmh_bases3.proofs.stamped.wait_rows.Given as goal

-- the rows of the processes so far
abbrev pub invariant-loop-asker : goal.invariant-loop-asker
invariant-loop-asker l = l.rows.items ≡ flat_map (waits_from (state_of l.controller)) (take l.asker-index l.asker-items)

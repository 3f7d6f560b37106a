use Rattle.std.proofs.Common.{◌≡◌, take}
use Rattle.cmh_controller3.specs.Controller.{state_of}
use Rattle.cmh_segment3.specs.States.{stamped_where}
use Rattle.cmh_bases3.specs.Inner.Rows.{has_asked}
use Rattle.cmh_bases3.proofs.stamped.stamp_rows.Given as goal

-- the processes so far that have asked
abbrev pub invariant-loop-process : goal.invariant-loop-process
invariant-loop-process l =
    l.rows.items ≡ stamped_where (has_asked (state_of l.controller)) (state_of l.controller).stamp (take l.process-index l.process-items)

use Rattle.std.proofs.Common.{take}
use Rattle.cmh_controller3.specs.Controller.{state_of}
use Rattle.cmh_controller3.specs.Restoring.{Takes}
use Rattle.cmh_bases3.specs.Bases.{AreMarks}
use Rattle.cmh_bases3.specs.Inner.Lists.{with_marks}
use Rattle.cmh_bases3.proofs.rows.put_marks.Given as goal

-- the controller has taken the rows so far
abbrev pub invariant-loop-row : goal.invariant-loop-row
invariant-loop-row l = Takes (AreMarks (state_of l.fn.controller).waits (take l.row-index l.rows)) (with_marks (take l.row-index l.rows) (state_of l.fn.controller)) l.fn.controller l.controller

use Rattle.std.proofs.Common.{take}
use Rattle.cmh_controller3.specs.Controller.{home_of, state_of}
use Rattle.cmh_controller3.specs.Restoring.{Takes}
use Rattle.cmh_bases3.specs.Bases.{AreOwed}
use Rattle.cmh_bases3.specs.Inner.Lists.{with_owed}
use Rattle.cmh_bases3.proofs.rows.put_owed.Given as goal

-- the controller has taken the rows so far
abbrev pub invariant-loop-row : goal.invariant-loop-row
invariant-loop-row l = Takes (AreOwed (home_of l.fn.controller) l.fn.controller.site (state_of l.fn.controller).waits (take l.row-index l.rows)) (with_owed (take l.row-index l.rows) (state_of l.fn.controller)) l.fn.controller l.controller

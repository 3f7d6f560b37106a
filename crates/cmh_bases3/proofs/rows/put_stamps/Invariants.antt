use Rattle.std.proofs.Common.{take}
use Rattle.cmh_controller3.specs.Controller.{home_of, state_of}
use Rattle.cmh_controller3.specs.Restoring.{Takes}
use Rattle.cmh_bases3.specs.Bases.{AreStamps}
use Rattle.cmh_bases3.specs.Inner.Lists.{with_stamps}
use Rattle.cmh_bases3.proofs.rows.put_stamps.Given as goal

-- the controller has taken the rows so far
abbrev pub invariant-loop-row : goal.invariant-loop-row
invariant-loop-row l = Takes (AreStamps (home_of l.fn.controller) l.fn.controller.site (state_of l.fn.controller).clock (take l.row-index l.rows)) (with_stamps (take l.row-index l.rows) (state_of l.fn.controller)) l.fn.controller l.controller

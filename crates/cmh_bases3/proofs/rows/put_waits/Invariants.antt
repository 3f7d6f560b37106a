use Rattle.std.proofs.Common.{take}
use Rattle.cmh_controller3.specs.Controller.{home_of, state_of}
use Rattle.cmh_controller3.specs.Restoring.{Takes}
use Rattle.cmh_bases3.specs.Bases.{AreWaits}
use Rattle.cmh_bases3.specs.Inner.Lists.{with_waits}
use Rattle.cmh_bases3.proofs.rows.put_waits.Given as goal

-- the controller has taken the rows so far
abbrev pub invariant-loop-row : goal.invariant-loop-row
invariant-loop-row l = Takes (AreWaits (home_of l.fn.controller) l.fn.controller.site (state_of l.fn.controller).stamp (take l.row-index l.rows)) (with_waits (home_of l.fn.controller) l.fn.controller.site (take l.row-index l.rows) (state_of l.fn.controller)) l.fn.controller l.controller

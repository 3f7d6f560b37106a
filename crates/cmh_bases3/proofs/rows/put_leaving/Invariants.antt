use Rattle.std.proofs.Common.{take}
use Rattle.cmh_controller3.specs.Controller.{home_of, state_of}
use Rattle.cmh_controller3.specs.Restoring.{Takes}
use Rattle.cmh_bases3.specs.Bases.{AreLeft}
use Rattle.cmh_bases3.specs.Inner.Lists.{with_left}
use Rattle.cmh_bases3.proofs.rows.put_leaving.Given as goal

-- the controller has taken the rows so far
abbrev pub invariant-loop-row : goal.invariant-loop-row
invariant-loop-row l = Takes (AreLeft (home_of l.fn.controller) l.fn.controller.site (take l.row-index l.rows)) (with_left (take l.row-index l.rows) (state_of l.fn.controller)) l.fn.controller l.controller

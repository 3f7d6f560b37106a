use Rattle.std.proofs.Common.{◌≡◌, drop}
use Rattle.std.specs.List.{list_any}
use Rattle.cmh_model3.specs.State.{waits_for}
use Rattle.cmh_controller3.specs.Controller.{state_of}
use Rattle.cmh_controller3.proofs.controller.Controller.waits_for_any.Given as goal

-- what is left says whether there is one
abbrev pub invariant-loop-target : goal.invariant-loop-target
invariant-loop-target l = list_any (waits_for (state_of l.self) l.asker) (drop l.target-index l.targets) ≡ list_any (waits_for (state_of l.self) l.asker) l.targets

use Rattle.std.proofs.Common.{◌≡◌, drop}
use Rattle.std.specs.List.{list_any}
use Rattle.cmh_controller3.specs.Controller.{state_of}
use Rattle.cmh_controller3.proofs.controller.Controller.is_leaving_any.Given as goal

-- what is left says whether there is one
abbrev pub invariant-loop-target : goal.invariant-loop-target
invariant-loop-target l = list_any ((state_of l.self).leaving l.asker) (drop l.target-index l.targets) ≡ list_any ((state_of l.self).leaving l.asker) l.targets

use Rattle.std.proofs.Common.{◌≡◌, drop, not}
use Rattle.std.specs.List.{list_any}
use Rattle.cmh_model3.specs.State.{waits_for}
use Rattle.cmh_controller3.specs.Controller.{state_of}
use Rattle.cmh_controller3.proofs.controller.Controller.waits_not_for_any.Given as goal

-- what is left says whether there is one
abbrev pub invariant-loop-target : goal.invariant-loop-target
invariant-loop-target l = list_any (λ k. not (waits_for (state_of l.self) l.asker k)) (drop l.target-index l.targets) ≡ list_any (λ k. not (waits_for (state_of l.self) l.asker k)) l.targets

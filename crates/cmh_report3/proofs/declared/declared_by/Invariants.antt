use Rattle.std.proofs.Common.{◌≡◌, ℕ, take}
use Rattle.std.specs.List.{list_any}
use Rattle.cmh_controller3.specs.Controller.{Controller, state_of}
use Rattle.cmh_model3.specs.Lists.{in_list}
use Rattle.cmh_report3.proofs.declared.declared_by.Given as goal

abbrev pub invariant-loop-controller : goal.invariant-loop-controller
invariant-loop-controller l =
    (p : ℕ) → in_list l.declared p ≡ list_any (λ (c : Controller). (state_of c).declared p) (take l.controller-index l.controllers)

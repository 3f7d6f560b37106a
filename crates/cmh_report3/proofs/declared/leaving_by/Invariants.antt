use Rattle.std.proofs.Common.{◌≡◌, ℕ, take}
use Rattle.std.specs.List.{list_any}
use Rattle.cmh_controller3.specs.Controller.{Controller, state_of}
use Rattle.cmh_report3.specs.Inner.Pairs.{has_pair}
use Rattle.cmh_report3.proofs.declared.leaving_by.Given as goal

abbrev pub invariant-loop-controller : goal.invariant-loop-controller
invariant-loop-controller l =
    (j k : ℕ) → has_pair l.leaving j k ≡ list_any (λ (c : Controller). (state_of c).leaving j k) (take l.controller-index l.controllers)

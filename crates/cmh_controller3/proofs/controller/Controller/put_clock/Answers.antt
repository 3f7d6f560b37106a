use Rattle.std.proofs.Common.{◌≤◌, rules, tests}
use Rattle.cmh_controller3.specs.contracts.controller.Controller.{the_view}
use Rattle.cmh_controller3.proofs.Restored.{gets_clock}
use Rattle.cmh_controller3.proofs.controller.Controller.put_clock.Goals as goal

pub invariant_of-self : goal.invariant_of-self
invariant_of-self c =
    let later : c.self.inside.clock ≤ c.args.clock = search (rules, tests) in
    (gets_clock (the_view c.self.inside) c.self.invariant c.args.clock later).kept

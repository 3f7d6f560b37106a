use Rattle.std.proofs.Common.{None, [], refl, sym, subst}
use Rattle.cmh_model3.specs.declared.event.Event.TheVariants.{Turn}
use Rattle.cmh_controller3.specs.Controller.{Controller}
use Rattle.cmh_controller3.specs.Steps.{CanTake}
use Rattle.cmh_controller3.specs.contracts.controller.Controller.{the_view}
use Rattle.cmh_controller3.proofs.Moving.{turn_moves}
use Rattle.cmh_controller3.proofs.controller.Controller.turn.Goals as goal

pub invariant_of-self : goal.invariant_of-self
invariant_of-self c =
    let accepted = subst (λ (v : Controller). CanTake v (Turn c.args.clock)) (sym c.self.view_is) c.requires in
    (turn_moves (the_view c.self.inside) c.self.invariant c.args.clock (record { sent = []; declared = None }) accepted refl refl).kept

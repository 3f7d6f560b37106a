use Rattle.std.proofs.Common.{◌∙◌, ◌<◌, sym, subst}
use Rattle.cmh_model3.specs.declared.frame.Frame.TheVariants.{Request}
use Rattle.cmh_model3.specs.declared.event.Event.TheVariants.{Got}
use Rattle.cmh_controller3.specs.Controller.{Controller}
use Rattle.cmh_controller3.specs.Steps.{CanTake}
use Rattle.cmh_controller3.specs.contracts.controller.Controller.{the_view}
use Rattle.cmh_controller3.proofs.Moving.{request_moves, steps_from}
use Rattle.cmh_controller3.proofs.controller.Controller.got_request.Goals as goal

pub invariant_of-self-2 : goal.invariant_of-self-2
invariant_of-self-2 c =
    let accepted = subst (λ (v : Controller). CanTake v (Got c.args.from c.args.clock (Request c.args.asker c.args.holder))) (sym c.self.view_is) c.requires in
    let some : 0 < c.args.from = subst (λ n. 0 < n) c.get-number.ensures.value c.get-number.ensures.number.least in
    (request_moves (the_view c.self.inside) c.self.invariant c.args.from c.args.clock c.args.asker c.args.holder c.later-self-inside.result c.add.new.self c.said.result some accepted
    (c.said.ensures.sent ∙ c.new.ensures.items) c.said.ensures.declared c.in_ok-add.ensures.ok c.in_ok-add.ensures.room c.later-self-inside.ensures).kept

pub returns-clause-ok : goal.returns-clause-ok
returns-clause-ok c =
    let accepted = subst (λ (v : Controller). CanTake v (Got c.args.from c.args.clock (Request c.args.asker c.args.holder))) (sym c.self.view_is) c.requires in
    let some : 0 < c.args.from = subst (λ n. 0 < n) c.get-number.ensures.value c.get-number.ensures.number.least in
    let moves = request_moves (the_view c.self.inside) c.self.invariant c.args.from c.args.clock c.args.asker c.args.holder c.later-self-inside.result c.add.new.self c.said.result some accepted
    (c.said.ensures.sent ∙ c.new.ensures.items) c.said.ensures.declared c.in_ok-add.ensures.ok c.in_ok-add.ensures.room c.later-self-inside.ensures in
    steps_from _ _ _ _ _ c.self.view_is moves.steps

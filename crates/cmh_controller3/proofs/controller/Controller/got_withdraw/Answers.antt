use Rattle.std.proofs.Common.{sym, subst}
use Rattle.cmh_model3.specs.declared.frame.Frame.TheVariants.{Withdraw as Withdraw_frame}
use Rattle.cmh_model3.specs.declared.event.Event.TheVariants.{Got}
use Rattle.cmh_controller3.specs.Controller.{Controller}
use Rattle.cmh_controller3.specs.Steps.{CanTake}
use Rattle.cmh_controller3.specs.contracts.controller.Controller.{the_view}
use Rattle.cmh_controller3.proofs.Halves.{leads_from, moves_lead}
use Rattle.cmh_controller3.proofs.Moving.{withdrawn_moves}
use Rattle.cmh_controller3.proofs.controller.Controller.got_withdraw.Goals as goal

pub invariant_of-self : goal.invariant_of-self
invariant_of-self c =
    let accepted = subst (λ (v : Controller). CanTake v (Got c.args.from c.args.clock (Withdraw_frame c.args.asker c.args.holder))) (sym c.self.view_is) c.requires in
    let moves = withdrawn_moves (the_view c.self.inside) c.self.invariant c.args.from c.args.clock c.args.asker c.args.holder c.later-self-inside.result c.remove.new.self accepted
    c.remove.ensures.pairs c.remove.ensures.room c.later-self-inside.ensures in
    moves.kept

pub returns : goal.returns
returns c =
    let accepted = subst (λ (v : Controller). CanTake v (Got c.args.from c.args.clock (Withdraw_frame c.args.asker c.args.holder))) (sym c.self.view_is) c.requires in
    let moves = withdrawn_moves (the_view c.self.inside) c.self.invariant c.args.from c.args.clock c.args.asker c.args.holder c.later-self-inside.result c.remove.new.self accepted
    c.remove.ensures.pairs c.remove.ensures.room c.later-self-inside.ensures in
    leads_from _ _ _ _ c.self.view_is (moves_lead _ _ _ _ moves)

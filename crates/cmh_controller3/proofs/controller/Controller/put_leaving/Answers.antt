use Rattle.std.proofs.Common.{refl, sym, subst}
use Rattle.cmh_controller3.specs.Controller.{Controller, home_of}
use Rattle.cmh_controller3.specs.Restoring.{MayLeave}
use Rattle.cmh_controller3.specs.contracts.controller.Controller.{the_view}
use Rattle.cmh_controller3.proofs.Restored.{gets_leaving}
use Rattle.cmh_controller3.proofs.controller.Controller.put_leaving.Goals as goal

pub invariant_of-self-2 : goal.invariant_of-self-2
invariant_of-self-2 c =
    let may = subst (λ (v : Controller). MayLeave (home_of v) v.site c.args.asker c.args.target) (sym c.self.view_is) (c.if-not-may_leave.ensures.0 refl) in
    (gets_leaving (the_view c.self.inside) c.self.invariant c.args.asker c.args.target c.add.new.self may c.in-Ok.ensures.ok c.in-Ok.ensures.room).kept

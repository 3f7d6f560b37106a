use Rattle.std.proofs.Common.{refl, sym, subst}
use Rattle.cmh_controller3.specs.Controller.{Controller, home_of, state_of}
use Rattle.cmh_controller3.specs.Restoring.{MayWait, Takes, with_wait}
use Rattle.cmh_controller3.specs.contracts.controller.Controller.{the_view}
use Rattle.cmh_controller3.proofs.Restored.{gets_wait}
use Rattle.cmh_controller3.proofs.controller.Controller.put_wait.Goals as goal

pub invariant_of-self-2 : goal.invariant_of-self-2
invariant_of-self-2 c =
    let may = subst (λ (v : Controller). MayWait (home_of v) v.site (state_of v) c.args.asker c.args.target c.args.since) (sym c.self.view_is) (c.if-not-may_wait.ensures.0 refl) in
    (gets_wait (the_view c.self.inside) c.self.invariant c.args.asker c.args.target c.args.since c.begin.new.self may c.in-Ok.ensures.members c.in-Ok.ensures.waits c.in-Ok.ensures.since).kept

pub returns-clause-ok : goal.returns-clause-ok
returns-clause-ok c =
    let may = subst (λ (v : Controller). MayWait (home_of v) v.site (state_of v) c.args.asker c.args.target c.args.since) (sym c.self.view_is) (c.if-not-may_wait.ensures.0 refl) in
    let takes = (gets_wait (the_view c.self.inside) c.self.invariant c.args.asker c.args.target c.args.since c.begin.new.self may c.in-Ok.ensures.members c.in-Ok.ensures.waits c.in-Ok.ensures.since).takes in
    subst (λ (v : Controller). Takes (MayWait (home_of v) v.site (state_of v) c.args.asker c.args.target c.args.since) (with_wait (home_of v) v.site (state_of v) c.args.asker c.args.target c.args.since) v
    (the_view (record c.self.inside { waits = c.begin.new.self }))) c.self.view_is takes

use Rattle.std.proofs.Common.{◌≡◌, ◌≢◌, ◌∙◌, refl, sym, subst}
use Rattle.std.proofs.lemmas.Bool.{eq-eqb, eqb-true, true≢false}
use Rattle.cmh_controller3.specs.Controller.{Controller, home_of, state_of}
use Rattle.cmh_controller3.specs.Restoring.{MayOwe, Takes, with_owed}
use Rattle.cmh_controller3.specs.contracts.controller.Controller.{the_view}
use Rattle.cmh_controller3.proofs.Restored.{gets_owed, owes_already}
use Rattle.cmh_controller3.proofs.controller.Controller.put_owed.Goals as goal

-- between two processes of the site
pub returns-then-is_here-clause-ok : goal.returns-then-is_here-clause-ok
returns-then-is_here-clause-ok c =
    let may = subst (λ (v : Controller). MayOwe (home_of v) v.site (state_of v) c.args.holder c.args.asker) (sym c.self.view_is) (c.if-not-may_owe.ensures.0 refl) in
    let here = subst (λ (v : Controller). home_of v c.args.asker ≡ v.site) (sym c.self.view_is) (eqb-true _ _ (sym c.is_here.ensures ∙ c.if-is_here.true)) in
    subst (λ (v : Controller). Takes (MayOwe (home_of v) v.site (state_of v) c.args.holder c.args.asker) (with_owed (state_of v) c.args.holder c.args.asker) v v) c.self.view_is
    (owes_already (the_view c.self.inside) c.self.invariant c.args.holder c.args.asker may here)

pub invariant_of-self-2 : goal.invariant_of-self-2
invariant_of-self-2 c =
    let may = subst (λ (v : Controller). MayOwe (home_of v) v.site (state_of v) c.args.holder c.args.asker) (sym c.self.view_is) (c.if-not-may_owe.ensures.0 refl) in
    let away = subst (λ (v : Controller). home_of v c.args.asker ≢ v.site) (sym c.self.view_is) (λ at. true≢false (sym (eq-eqb _ _ at) ∙ sym c.is_here.ensures ∙ c.if-is_here.false)) in
    (gets_owed (the_view c.self.inside) c.self.invariant c.args.holder c.args.asker c.add.new.self may away c.in-Ok.ensures.ok c.in-Ok.ensures.room).kept

pub returns-clause-ok : goal.returns-clause-ok
returns-clause-ok c =
    let may = subst (λ (v : Controller). MayOwe (home_of v) v.site (state_of v) c.args.holder c.args.asker) (sym c.self.view_is) (c.if-not-may_owe.ensures.0 refl) in
    let away = subst (λ (v : Controller). home_of v c.args.asker ≢ v.site) (sym c.self.view_is) (λ at. true≢false (sym (eq-eqb _ _ at) ∙ sym c.is_here.ensures ∙ c.if-is_here.false)) in
    let takes = (gets_owed (the_view c.self.inside) c.self.invariant c.args.holder c.args.asker c.add.new.self may away c.in-Ok.ensures.ok c.in-Ok.ensures.room).takes in
    subst (λ (v : Controller). Takes (MayOwe (home_of v) v.site (state_of v) c.args.holder c.args.asker) (with_owed (state_of v) c.args.holder c.args.asker) v
    (the_view (record c.self.inside { owed = c.add.new.self }))) c.self.view_is takes

use Rattle.std.proofs.Common.{◌≡◌, ◌∙◌, ap, refl, sym, subst}
use Rattle.std.proofs.Math.ListN.{set}
use Rattle.std.proofs.lemmas.List.{length-set}
use Rattle.cmh_model3.specs.Lists.{set_at}
use Rattle.cmh_controller3.specs.Controller.{Controller, home_of, state_of}
use Rattle.cmh_controller3.specs.Restoring.{MayStamp}
use Rattle.cmh_controller3.specs.Tables.{stamps_of}
use Rattle.cmh_controller3.specs.contracts.controller.Controller.{the_view}
use Rattle.cmh_controller3.proofs.Restored.{gets_stamp}
use Rattle.cmh_controller3.proofs.Tables.{table_set}
use Rattle.cmh_controller3.proofs.controller.Controller.put_stamp.Goals as goal

pub invariant_of-self : goal.invariant_of-self
invariant_of-self c =
    let may = subst (λ (v : Controller). MayStamp (home_of v) v.site (state_of v) c.args.process c.args.stamp) (sym c.self.view_is) (c.if-not-may_stamp.ensures.0 refl) in
    let set_is : stamps_of (set c.self.inside.stamps.items c.get.result c.args.stamp) ≡ set_at (stamps_of c.self.inside.stamps.items) c.args.process c.args.stamp =
    ap (λ n. stamps_of (set c.self.inside.stamps.items n c.args.stamp)) c.get.ensures.value ∙ table_set c.self.inside.stamps.items c.args.process c.args.stamp 0 (c.self.invariant.stamps_room c.args.process may.0) in
    (gets_stamp (the_view c.self.inside) c.self.invariant c.args.process c.args.stamp _ may set_is (length-set c.self.inside.stamps.items c.get.result c.args.stamp)).kept

use Rattle.std.proofs.Common.{◌∙◌, sym}
use Rattle.cmh_controller3.specs.contracts.controller.Controller.{the_view}
use Rattle.cmh_controller3.proofs.Restored.{blocked_here, gets_mark}
use Rattle.cmh_controller3.proofs.controller.Controller.put_mark.Goals as goal

pub put-requires : goal.put-requires
put-requires c =
    let blocked = sym c.is_blocked.ensures ∙ c.if-not-is_blocked.false in
    c.self.invariant.marks_room c.args.at (blocked_here (the_view c.self.inside) c.self.invariant c.args.at blocked)

pub invariant_of-self-2 : goal.invariant_of-self-2
invariant_of-self-2 c =
    let blocked = sym c.is_blocked.ensures ∙ c.if-not-is_blocked.false in
    (gets_mark (the_view c.self.inside) c.self.invariant c.args.at c.args.origin c.args.stamp c.put.new.self blocked c.in-Ok.ensures.ok c.in-Ok.ensures.room).kept

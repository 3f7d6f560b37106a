use Rattle.std.proofs.Common.{◌∙◌, None, [], refl, sym, ap, subst}
use Rattle.cmh_model3.specs.declared.frame.Frame.TheVariants.{Reply as Reply_frame}
use Rattle.cmh_model3.specs.declared.event.Event.TheVariants.{Got}
use Rattle.cmh_waits3.specs.Held.{Held}
use Rattle.cmh_controller3.specs.Controller.{Controller, home_of}
use Rattle.cmh_controller3.specs.Steps.{CanTake}
use Rattle.cmh_controller3.specs.contracts.controller.Controller.{the_view}
use Rattle.cmh_controller3.proofs.After.{woken}
use Rattle.cmh_controller3.proofs.Halves.{leads_from, moves_lead}
use Rattle.cmh_controller3.proofs.Moving.{got_reply_moves, left_moves}
use Rattle.cmh_controller3.proofs.controller.Controller.got_reply.Goals as goal

pub invariant_of-self : goal.invariant_of-self
invariant_of-self c =
    let accepted = subst (λ (v : Controller). CanTake v (Got c.args.from c.args.clock (Reply_frame c.args.holder c.args.asker))) (sym c.self.view_is) c.requires in
    let awake = woken (home_of (the_view c.self.inside)) c.self.inside.site (the_view c.self.inside).kept c.args.asker _ c.end.new.self c.forget.new.marks c.forget.new.declared.items c.is_blocked-blocked.result
    c.end.ensures.waits c.end.ensures.since c.is_blocked-blocked.ensures c.forget.ensures.marks c.forget.ensures.declared in
    let moves = got_reply_moves (the_view c.self.inside) c.self.invariant c.args.from c.args.clock c.args.holder c.args.asker c.later-self-inside.result c.end.new.self c.forget.new.marks c.forget.new.declared.items (record { sent = []; declared = None }) accepted
    refl refl (sym c.waits_for.ensures ∙ c.if-waits_for.true) awake (ap (λ (w : Held). w.members) c.end.ensures.value) c.forget.ensures.marks_length c.forget.ensures.declared_length c.later-self-inside.ensures in
    moves.kept

pub invariant_of-self-else-waits_for : goal.invariant_of-self-else-waits_for
invariant_of-self-else-waits_for c =
    let accepted = subst (λ (v : Controller). CanTake v (Got c.args.from c.args.clock (Reply_frame c.args.holder c.args.asker))) (sym c.self.view_is) c.requires in
    let moves = left_moves (the_view c.self.inside) c.self.invariant c.args.from c.args.clock c.args.holder c.args.asker c.later-self-inside.result c.remove.new.self (record { sent = []; declared = None }) accepted
    refl refl (sym c.waits_for.ensures ∙ c.if-waits_for.false) c.remove.ensures.pairs c.remove.ensures.room c.later-self-inside.ensures in
    moves.kept

pub returns-then-waits_for : goal.returns-then-waits_for
returns-then-waits_for c =
    let accepted = subst (λ (v : Controller). CanTake v (Got c.args.from c.args.clock (Reply_frame c.args.holder c.args.asker))) (sym c.self.view_is) c.requires in
    let awake = woken (home_of (the_view c.self.inside)) c.self.inside.site (the_view c.self.inside).kept c.args.asker _ c.end.new.self c.forget.new.marks c.forget.new.declared.items c.is_blocked-blocked.result
    c.end.ensures.waits c.end.ensures.since c.is_blocked-blocked.ensures c.forget.ensures.marks c.forget.ensures.declared in
    let moves = got_reply_moves (the_view c.self.inside) c.self.invariant c.args.from c.args.clock c.args.holder c.args.asker c.later-self-inside.result c.end.new.self c.forget.new.marks c.forget.new.declared.items (record { sent = []; declared = None }) accepted
    refl refl (sym c.waits_for.ensures ∙ c.if-waits_for.true) awake (ap (λ (w : Held). w.members) c.end.ensures.value) c.forget.ensures.marks_length c.forget.ensures.declared_length c.later-self-inside.ensures in
    leads_from _ _ _ _ c.self.view_is (moves_lead _ _ _ _ moves)

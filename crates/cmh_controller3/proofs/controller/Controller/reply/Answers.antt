use Rattle.std.proofs.Common.{◌≡◌, ◌≢◌, ◌∙◌, None, [], ◌∷◌, refl, sym, ap, subst}
use Rattle.cmh_model3.specs.declared.frame.Frame.TheVariants.{Reply as Reply_frame}
use Rattle.cmh_model3.specs.declared.event.Event.TheVariants.{Reply}
use Rattle.cmh_model3.specs.Rules.{message}
use Rattle.cmh_waits3.specs.Held.{Held}
use Rattle.cmh_controller3.specs.Controller.{Controller, home_of}
use Rattle.cmh_controller3.specs.Steps.{CanTake}
use Rattle.cmh_controller3.specs.contracts.controller.Controller.{the_view}
use Rattle.cmh_controller3.proofs.After.{woken}
use Rattle.cmh_controller3.proofs.Halves.{leads_from, moves_lead}
use Rattle.cmh_controller3.proofs.Moving.{away_moves, here_moves}
use Rattle.cmh_controller3.proofs.Naming.{is_same, not_same}
use Rattle.cmh_controller3.proofs.controller.Controller.reply.Goals as goal

pub invariant_of-self : goal.invariant_of-self
invariant_of-self c =
    let accepted = subst (λ (v : Controller). CanTake v (Reply c.args.holder c.args.asker)) (sym c.self.view_is) c.requires in
    let at : home_of (the_view c.self.inside) c.args.asker ≡ c.self.inside.site = sym c.home_of_known.ensures ∙ is_same c.eq.result _ _ c.eq.ensures c.if-eq.true in
    let awake = woken (home_of (the_view c.self.inside)) c.self.inside.site (the_view c.self.inside).kept c.args.asker _ c.end.new.self c.forget.new.marks c.forget.new.declared.items c.is_blocked-blocked.result
    c.end.ensures.waits c.end.ensures.since c.is_blocked-blocked.ensures c.forget.ensures.marks c.forget.ensures.declared in
    let moves = here_moves (the_view c.self.inside) c.self.invariant c.args.holder c.args.asker c.end.new.self c.forget.new.marks c.forget.new.declared.items (record { sent = []; declared = None }) accepted at
    refl refl awake (ap (λ (w : Held). w.members) c.end.ensures.value) c.forget.ensures.marks_length c.forget.ensures.declared_length in
    moves.kept

pub invariant_of-self-else-eq : goal.invariant_of-self-else-eq
invariant_of-self-else-eq c =
    let accepted = subst (λ (v : Controller). CanTake v (Reply c.args.holder c.args.asker)) (sym c.self.view_is) c.requires in
    let far : home_of (the_view c.self.inside) c.args.asker ≢ c.self.inside.site = λ e. not_same c.eq.result _ _ c.eq.ensures c.if-eq.false (c.home_of_known.ensures ∙ e) in
    let moves = away_moves (the_view c.self.inside) c.self.invariant c.args.holder c.args.asker c.remove.new.self
    (record { sent = (home_of (the_view c.self.inside) c.args.asker, message c.self.inside.clock (Reply_frame c.args.holder c.args.asker)) ∷ []; declared = None }) accepted far
    refl refl c.remove.ensures.pairs c.remove.ensures.room in
    moves.kept

pub returns-then-eq : goal.returns-then-eq
returns-then-eq c =
    let accepted = subst (λ (v : Controller). CanTake v (Reply c.args.holder c.args.asker)) (sym c.self.view_is) c.requires in
    let at : home_of (the_view c.self.inside) c.args.asker ≡ c.self.inside.site = sym c.home_of_known.ensures ∙ is_same c.eq.result _ _ c.eq.ensures c.if-eq.true in
    let awake = woken (home_of (the_view c.self.inside)) c.self.inside.site (the_view c.self.inside).kept c.args.asker _ c.end.new.self c.forget.new.marks c.forget.new.declared.items c.is_blocked-blocked.result
    c.end.ensures.waits c.end.ensures.since c.is_blocked-blocked.ensures c.forget.ensures.marks c.forget.ensures.declared in
    let moves = here_moves (the_view c.self.inside) c.self.invariant c.args.holder c.args.asker c.end.new.self c.forget.new.marks c.forget.new.declared.items (record { sent = []; declared = None }) accepted at
    refl refl awake (ap (λ (w : Held). w.members) c.end.ensures.value) c.forget.ensures.marks_length c.forget.ensures.declared_length in
    leads_from _ _ _ _ c.self.view_is (moves_lead _ _ _ _ moves)

pub returns-else-eq : goal.returns-else-eq
returns-else-eq c =
    let accepted = subst (λ (v : Controller). CanTake v (Reply c.args.holder c.args.asker)) (sym c.self.view_is) c.requires in
    let far : home_of (the_view c.self.inside) c.args.asker ≢ c.self.inside.site = λ e. not_same c.eq.result _ _ c.eq.ensures c.if-eq.false (c.home_of_known.ensures ∙ e) in
    let moves = away_moves (the_view c.self.inside) c.self.invariant c.args.holder c.args.asker c.remove.new.self
    (record { sent = (home_of (the_view c.self.inside) c.args.asker, message c.self.inside.clock (Reply_frame c.args.holder c.args.asker)) ∷ []; declared = None }) accepted far
    refl refl c.remove.ensures.pairs c.remove.ensures.room in
    leads_from _ _ _ _ c.self.view_is (moves_lead _ _ _ _ moves)

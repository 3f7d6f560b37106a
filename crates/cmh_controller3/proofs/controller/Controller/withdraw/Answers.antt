use Rattle.std.proofs.Common.{◌≡◌, ℕ, true, None, [], get_or, refl, sym, ap, subst}
use Rattle.cmh_model3.specs.declared.event.Event.TheVariants.{Withdraw}
use Rattle.cmh_model3.specs.Rules.{targets_away, withdraws}
use Rattle.cmh_waits3.specs.Held.{Held}
use Rattle.cmh_controller3.specs.Controller.{Controller, home_of, state_of}
use Rattle.cmh_controller3.specs.Steps.{CanTake}
use Rattle.cmh_controller3.specs.contracts.controller.Controller.{the_view}
use Rattle.cmh_controller3.proofs.After.{woken}
use Rattle.cmh_controller3.proofs.Halves.{leads_from, moves_lead, row_again, row_holds}
use Rattle.cmh_controller3.proofs.Moving.{withdraw_moves}
use Rattle.cmh_controller3.proofs.controller.Controller.withdraw.Goals as goal

pub invariant_of-self : goal.invariant_of-self
invariant_of-self c =
    let accepted = subst (λ (v : Controller). CanTake v (Withdraw c.args.asker c.args.targets.now)) (sym c.self.view_is) c.requires.accepted in
    let left = subst (λ (v : Controller). (k : ℕ) → targets_away (home_of v) v.site c.args.asker c.args.targets.now c.args.asker k ≡ true → (state_of v).leaving c.args.asker k ≡ true) (sym c.self.view_is) c.requires.left in
    let awake = woken (home_of (the_view c.self.inside)) c.self.inside.site (the_view c.self.inside).kept c.args.asker _ c.end_all.new.self c.forget.new.marks c.forget.new.declared.items c.is_blocked-blocked.result
    c.end_all.ensures.waits c.end_all.ensures.since c.is_blocked-blocked.ensures c.forget.ensures.marks c.forget.ensures.declared in
    let moves = withdraw_moves (the_view c.self.inside) c.self.invariant c.args.asker c.args.targets.now c.end_all.new.self c.self.inside.leaving c.forget.new.marks c.forget.new.declared.items (get_or c.self.inside.leaving c.args.asker [])
    (record { sent = withdraws (home_of (the_view c.self.inside)) c.self.inside.site c.self.inside.clock c.args.asker c.args.targets.now; declared = None }) accepted refl refl
    (row_holds (home_of (the_view c.self.inside)) c.self.inside.site c.args.asker c.args.targets.now c.self.inside.leaving left) (row_again c.self.inside.leaving c.args.asker) refl
    awake (ap (λ (x : Held). x.members) c.end_all.ensures.value) c.forget.ensures.marks_length c.forget.ensures.declared_length in
    moves.kept

pub returns : goal.returns
returns c =
    let accepted = subst (λ (v : Controller). CanTake v (Withdraw c.args.asker c.args.targets.now)) (sym c.self.view_is) c.requires.accepted in
    let left = subst (λ (v : Controller). (k : ℕ) → targets_away (home_of v) v.site c.args.asker c.args.targets.now c.args.asker k ≡ true → (state_of v).leaving c.args.asker k ≡ true) (sym c.self.view_is) c.requires.left in
    let awake = woken (home_of (the_view c.self.inside)) c.self.inside.site (the_view c.self.inside).kept c.args.asker _ c.end_all.new.self c.forget.new.marks c.forget.new.declared.items c.is_blocked-blocked.result
    c.end_all.ensures.waits c.end_all.ensures.since c.is_blocked-blocked.ensures c.forget.ensures.marks c.forget.ensures.declared in
    let moves = withdraw_moves (the_view c.self.inside) c.self.invariant c.args.asker c.args.targets.now c.end_all.new.self c.self.inside.leaving c.forget.new.marks c.forget.new.declared.items (get_or c.self.inside.leaving c.args.asker [])
    (record { sent = withdraws (home_of (the_view c.self.inside)) c.self.inside.site c.self.inside.clock c.args.asker c.args.targets.now; declared = None }) accepted refl refl
    (row_holds (home_of (the_view c.self.inside)) c.self.inside.site c.args.asker c.args.targets.now c.self.inside.leaving left) (row_again c.self.inside.leaving c.args.asker) refl
    awake (ap (λ (x : Held). x.members) c.end_all.ensures.value) c.forget.ensures.marks_length c.forget.ensures.declared_length in
    leads_from _ _ _ _ c.self.view_is (moves_lead _ _ _ _ moves)

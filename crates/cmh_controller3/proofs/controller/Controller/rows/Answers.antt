use Rattle.std.proofs.Common.{◌≡◌, ◌∙◌, [], ◌∷◌, sym, ap, subst}
use Rattle.std.proofs.lemmas.Bool.{eqb-true}
use Rattle.std.proofs.lemmas.Result.{IfOk-weaker}
use Rattle.cmh_model3.specs.declared.event.Event.{Event}
use Rattle.cmh_model3.specs.declared.event.Event.TheVariants.{Withdraw, Got}
use Rattle.cmh_model3.specs.declared.frame.Frame.TheVariants.{Reply as Reply_frame, Withdraw as Withdraw_frame}
use Rattle.cmh_controller3.specs.Controller.{home_of}
use Rattle.cmh_controller3.specs.Inner.SecondHalves.{CanEnd, HoldsLeaving, HoldsOwed, HoldsWaits, PutsBack}
use Rattle.cmh_controller3.proofs.RowsBack.{got_reply_puts, got_withdraw_puts, left_puts, not_here, reply_away_puts, reply_here_puts, withdraw_puts}
use Rattle.cmh_controller3.proofs.controller.Controller.rows.Goals as goal

pub returns-then-is_here : goal.returns-then-is_here
returns-then-is_here c =
    let now = c.args.self.now in
    let k = c.in-Reply.holder in
    let j = c.in-Reply.asker in
    IfOk-weaker c.waits_row.result (HoldsWaits now j (k ∷ [])) (PutsBack now c.args.event.now)
    (λ rows holds. subst (λ (e : Event). PutsBack now e rows) (sym c.in-Reply.is)
    (reply_here_puts now rows k j (eqb-true (home_of now j) now.site (sym c.is_here.ensures ∙ c.if-is_here.true)) holds))
    c.waits_row.ensures

pub returns-else-is_here : goal.returns-else-is_here
returns-else-is_here c =
    let now = c.args.self.now in
    let k = c.in-Reply.holder in
    let j = c.in-Reply.asker in
    IfOk-weaker c.owed_row.result (HoldsOwed now k) (PutsBack now c.args.event.now)
    (λ rows holds. subst (λ (e : Event). PutsBack now e rows) (sym c.in-Reply.is)
    (reply_away_puts now rows k j (not_here (home_of now j) now.site (sym c.is_here.ensures ∙ c.if-is_here.false)) holds))
    c.owed_row.ensures

pub returns-in-Withdraw : goal.returns-in-Withdraw
returns-in-Withdraw c =
    let now = c.args.self.now in
    let j = c.in-Withdraw.asker in
    let ks = c.as_slice.result.now in
    let same : Withdraw j ks ≡ c.args.event.now = ap (Withdraw j) c.as_slice.ensures ∙ sym c.in-Withdraw.is in
    let ends = subst (λ (e : Event). CanEnd now e) (sym same) c.requires in
    IfOk-weaker c.waits_row-in-Withdraw.result (HoldsWaits now j ks) (PutsBack now c.args.event.now)
    (λ rows holds. subst (λ (e : Event). PutsBack now e rows) same (withdraw_puts now rows j ks ends.0.0 ends.1 holds))
    c.waits_row-in-Withdraw.ensures

pub returns-then-waits_for : goal.returns-then-waits_for
returns-then-waits_for c =
    let now = c.args.self.now in
    let k = c.in-Reply-frame.holder in
    let j = c.in-Reply-frame.asker in
    let is : c.args.event.now ≡ Got c.in-Got.from c.in-Got.clock (Reply_frame k j) = c.in-Got.is ∙ ap (Got c.in-Got.from c.in-Got.clock) c.in-Reply-frame.is in
    IfOk-weaker c.waits_row-then-waits_for.result (HoldsWaits now j (k ∷ [])) (PutsBack now c.args.event.now)
    (λ rows holds. subst (λ (e : Event). PutsBack now e rows) (sym is)
    (got_reply_puts now rows c.in-Got.from c.in-Got.clock k j (sym c.waits_for.ensures ∙ c.if-waits_for.true) holds))
    c.waits_row-then-waits_for.ensures

pub returns-else-waits_for : goal.returns-else-waits_for
returns-else-waits_for c =
    let now = c.args.self.now in
    let k = c.in-Reply-frame.holder in
    let j = c.in-Reply-frame.asker in
    let is : c.args.event.now ≡ Got c.in-Got.from c.in-Got.clock (Reply_frame k j) = c.in-Got.is ∙ ap (Got c.in-Got.from c.in-Got.clock) c.in-Reply-frame.is in
    IfOk-weaker c.leaving_row.result (HoldsLeaving now j) (PutsBack now c.args.event.now)
    (λ rows holds. subst (λ (e : Event). PutsBack now e rows) (sym is)
    (left_puts now rows c.in-Got.from c.in-Got.clock k j (sym c.waits_for.ensures ∙ c.if-waits_for.false) holds))
    c.leaving_row.ensures

pub returns-in-Withdraw-frame : goal.returns-in-Withdraw-frame
returns-in-Withdraw-frame c =
    let now = c.args.self.now in
    let k = c.in-Withdraw-frame.holder in
    let is : c.args.event.now ≡ Got c.in-Got.from c.in-Got.clock (Withdraw_frame c.in-Withdraw-frame.asker k) = c.in-Got.is ∙ ap (Got c.in-Got.from c.in-Got.clock) c.in-Withdraw-frame.is in
    IfOk-weaker c.owed_row-in-Withdraw-frame.result (HoldsOwed now k) (PutsBack now c.args.event.now)
    (λ rows holds. subst (λ (e : Event). PutsBack now e rows) (sym is)
    (got_withdraw_puts now rows c.in-Got.from c.in-Got.clock c.in-Withdraw-frame.asker k holds))
    c.owed_row-in-Withdraw-frame.ensures

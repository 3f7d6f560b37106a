use Rattle.std.proofs.Common.{◌≡◌, ◌∙◌, ◌+◌, ◌<◌, ◌≤◌, length, sym, ap, subst, arith}
use Rattle.std.proofs.lemmas.Bool.{eqb-true}
use Rattle.std.proofs.lemmas.List.{nil_from_length}
use Rattle.cmh_model3.specs.Rules.{clock_limit, most_waits}
use Rattle.cmh_controller3.specs.Controller.{Controller, home_of, state_of}
use Rattle.cmh_controller3.specs.Refusals.{MayAsk}
use Rattle.cmh_controller3.proofs.Naming.{some_named}
use Rattle.cmh_controller3.proofs.Refusing.{ask_accepted, named_may, start_may}
use Rattle.cmh_controller3.proofs.controller.Controller.check_ask.Goals as goal
use Rattle.cmh_controller3.proofs.controller.Controller.check_ask.Goals.{then-is_empty+else-not-is_blocked, else-is_empty+else-not-can_name}

pub returns : goal.returns
returns c =
    let now = c.args.self.now in
    let j = c.args.asker in
    let ks = c.args.targets.now in
    let few : length ((state_of now).waits j) ≤ most_waits = subst (λ (v : Controller). length ((state_of v).waits j) ≤ most_waits) c.self.view_is (c.self.invariant.facts.few_waits j) in
    let clock : now.kept.clock ≡ c.get.result = ap (λ (v : Controller). v.kept.clock) (sym c.self.view_is) ∙ sym c.get.ensures in
    let ticks : now.kept.clock + 1 < clock_limit = omega (arith, clock) in
    let may : MayAsk (home_of now) now.site (state_of now) j ks = elim c.if-is_empty.branch [
      | then-is_empty+else-not-is_blocked w ↦
          start_may (home_of now) now.site (state_of now) j ks c.in_ok-check_here.ensures (nil_from_length ks (eqb-true (length ks) 0 (sym c.is_empty.ensures ∙ w.if-is_empty.true)))
          (sym w.is_blocked.ensures ∙ w.if-not-is_blocked.false) few
      | else-is_empty+else-not-can_name w ↦
          named_may (home_of now) now.site (state_of now) j ks c.in_ok-check_here.ensures (some_named ks (sym c.is_empty.ensures ∙ w.if-is_empty.false)) (w.can_name.ensures.0 w.if-not-can_name.false)
    ] in
    ask_accepted (home_of now) now.site (state_of now) j ks may (sym c.is_leaving_any.ensures ∙ c.if-is_leaving_any.false) (sym c.waits_for_any.ensures ∙ c.if-waits_for_any.false) ticks

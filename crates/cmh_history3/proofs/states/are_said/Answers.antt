use Rattle.std.proofs.Common.{◌*◌, ◌^◌, ◌<◌, refl, subst, arith, take_all}
use Rattle.std.specs.List.{All}
use Rattle.std.proofs.lemmas.List.Elements.{All-more}
use Rattle.cmh_controller3.specs.Controller.{state_of}
use Rattle.cmh_history3.specs.Inner.Rows.{CanTurn}
use Rattle.cmh_history3.specs.Says.{IsSaid}
use Rattle.cmh_history3.proofs.states.are_said.Goals as goal

pub loop-controller-preserved : goal.loop-controller-preserved
loop-controller-preserved c =
    let cs = c.args.controllers.now in
    let i = c.loop-controller.controller-index in
    let at = IsSaid c.args.epoch c.args.next.now in
    let low = c.if-get-first.false in
    let clock = c.clock.ensures in
    let got = c.get.ensures in
    let first = c.first_stamp-first.ensures in
    let below : (state_of c.controller-item.result).clock < c.args.epoch * 2 ^ 32 = omega (arith, low, clock, got, first) in
    let said : at c.controller-item.result = record { later = below; state = c.in_ok-is_said.ensures.said.0 c.if-not-branch.false } in
    record {
      said = All-more at cs i c.controller-item.result c.loop-controller-test.true c.loop-controller.invariant.said (subst at c.controller-item.is said);
      turn = All-more CanTurn cs i c.controller-item.result c.loop-controller-test.true c.loop-controller.invariant.turn (subst CanTurn c.controller-item.is (c.in_ok-is_said.ensures.turn c.if-not-branch.false));
    }

pub returns-clause-said : goal.returns-clause-said
returns-clause-said c = (
  (λ yes. subst (All (IsSaid c.args.epoch c.args.next.now)) (take_all c.loop-controller.controller-index c.args.controllers.now c.loop-controller-test.false) c.loop-controller.invariant.said),
  (λ all. refl),
)

pub returns-clause-turn : goal.returns-clause-turn
returns-clause-turn c = λ yes. subst (All CanTurn) (take_all c.loop-controller.controller-index c.args.controllers.now c.loop-controller-test.false) c.loop-controller.invariant.turn

use Rattle.std.proofs.Common.{◌≡◌}
use Rattle.cmh_play.proofs.LinesLed.{HasLed}
use Rattle.cmh_play.proofs.play.answer_all.Given as goal

abbrev pub invariant-loop-turn : goal.invariant-loop-turn
invariant-loop-turn g l = record {
  led : HasLed g.K.Keeper.wants l.state l.initial.input.left l.input.left l.initial.out.written l.out.written l.turn;
  unfailed : l.out.has_failed ≡ l.initial.out.has_failed;
}

use Rattle.std.proofs.Common.{◌≡◌}
use Rattle.cmh_play3.specs.Held.{ShowsSome}
use Rattle.cmh_play3.specs.PlayStates.{PlayState}
use Rattle.cmh_play3.proofs.Lines.{HasTalked}
use Rattle.cmh_play3.proofs.play.answer_all.Given as goal

abbrev pub invariant-loop-turn : goal.invariant-loop-turn
invariant-loop-turn g l = record {
  talked : ShowsSome l.state (λ (last : PlayState). HasTalked l.initial.input.left l.input.left l.initial.out.written l.out.written last l.turn);
  unfailed : l.out.has_failed ≡ l.initial.out.has_failed;
}

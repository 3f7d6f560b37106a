use Rattle.cmh_play.proofs.KeptPlays.{answered_alone}
use Rattle.cmh_play.proofs.play.run_play.Goals as goal

pub returns-clause-answers : goal.returns-clause-answers
returns-clause-answers g c = answered_alone _ _ _ _ _ _ _ c.run_play_keeping.ensures.answers

use Rattle.cmh_play.proofs.KeptPlays.{answered_alone}
use Rattle.cmh_commands.proofs.paging.play_keeping.Goals as goal

pub returns-clause-plays : goal.returns-clause-plays
returns-clause-plays g c = record {
  answered = answered_alone _ _ _ _ _ _ _ c.run_play_keeping.ensures.answers;
  flushed = c.run_play_keeping.ensures.flushed;
  silent = c.run_play_keeping.ensures.silent;
  fault = c.run_play_keeping.ensures.fault;
}

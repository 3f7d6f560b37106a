use Rattle.std.proofs.Common.{[], ◌∷◌}
use Rattle.cmh_frames.proofs.Listed.{pairs}
use Rattle.cmh_frames.proofs.Pairs.{has-without_same}
use Rattle.cmh_frames.proofs.Scripts.{answered_run, no_more_waits}
use Rattle.cmh_frames.proofs.examples.reply_comes_over_a_link.Goals as goal

pub returns-clause-run : goal.returns-clause-run
returns-clause-run c = answered_run

pub returns-clause-active : goal.returns-clause-active
returns-clause-active c = no_more_waits 1 2

pub returns-clause-not_owed : goal.returns-clause-not_owed
returns-clause-not_owed c = has-without_same (pairs ((2, 1) ∷ [])) 2 1

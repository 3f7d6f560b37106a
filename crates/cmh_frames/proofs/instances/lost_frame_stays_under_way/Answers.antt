use Rattle.std.proofs.Common.{[]}
use Rattle.cmh_frames.proofs.Listed.{has-pairs}
use Rattle.cmh_frames.proofs.Scripts.{lost_run}
use Rattle.cmh_frames.proofs.instances.lost_frame_stays_under_way.Goals as goal

pub returns-clause-run : goal.returns-clause-run
returns-clause-run c = lost_run

pub returns-clause-not_drained : goal.returns-clause-not_drained
returns-clause-not_drained c drained = absurd (cc (drained 1 2))

pub returns-clause-not_owed : goal.returns-clause-not_owed
returns-clause-not_owed c = has-pairs [] 2 1

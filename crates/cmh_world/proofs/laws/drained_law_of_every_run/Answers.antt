use Rattle.cmh_world.proofs.DrainedRuns.{last_asker_declared}
use Rattle.cmh_world.proofs.laws.drained_law_of_every_run.Goals as goal

pub returns : goal.returns
returns c = record { last_asker = λ edition events run drained. last_asker_declared c.args.topology.now events edition run drained }

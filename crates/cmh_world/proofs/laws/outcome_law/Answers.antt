use Rattle.cmh_frames.proofs.Outcomes.{one_outcome}
use Rattle.cmh_world.proofs.laws.outcome_law.Goals as goal

pub returns : goal.returns
returns c = record { one_outcome = one_outcome c.args.topology.now }

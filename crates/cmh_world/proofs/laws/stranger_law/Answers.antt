use Rattle.cmh_frames.proofs.Strangers.{strangers_silent}
use Rattle.cmh_world.proofs.laws.stranger_law.Goals as goal

pub returns : goal.returns
returns c = record { silent = strangers_silent c.args.topology.now }

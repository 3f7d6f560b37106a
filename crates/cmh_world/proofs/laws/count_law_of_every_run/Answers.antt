use Rattle.cmh_world.proofs.Turns.{asks_and_replies}
use Rattle.cmh_world.proofs.laws.count_law_of_every_run.Goals as goal

pub returns : goal.returns
returns c = record { counts = asks_and_replies c.args.topology.now }

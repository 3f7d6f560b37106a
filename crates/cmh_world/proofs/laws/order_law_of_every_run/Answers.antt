use Rattle.cmh_world.proofs.Orders.{same_waits}
use Rattle.cmh_world.proofs.laws.order_law_of_every_run.Goals as goal

pub returns : goal.returns
returns c = record { waits = same_waits c.args.topology.now }

use Rattle.cmh_world.proofs.Stops.{stops_anywhere}
use Rattle.cmh_world.proofs.laws.cut_law_of_every_run.Goals as goal

pub returns : goal.returns
returns c = record { stops = stops_anywhere c.args.topology.now }

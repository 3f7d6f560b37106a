use Rattle.cmh_cluster3.proofs.Homes.{at_home, no_home}
use Rattle.cmh_cluster3.proofs.answering.home_in.Goals as goal

pub returns-in-Some : goal.returns-in-Some
returns-in-Some c = at_home c.args.topology.now c.args.process c.in-Some.site c.place_in.result c.in-Some.ensures c.place_in.ensures

pub returns-in-None : goal.returns-in-None
returns-in-None c = no_home c.args.topology.now c.args.process c.in-None.ensures

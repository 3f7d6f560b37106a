use Rattle.cmh_lab_stations.proofs.links.read_into.Goals as goal

pub read-requires-clause-fresh : goal.read-requires-clause-fresh
read-requires-clause-fresh g c = c.requires.fresh

pub read-requires-clause-fed : goal.read-requires-clause-fed
read-requires-clause-fed g c = c.requires.fed

pub read-requires-in-Hands-clause-fresh : goal.read-requires-in-Hands-clause-fresh
read-requires-in-Hands-clause-fresh g c = c.requires.fresh

pub read-requires-in-Hands-clause-fed : goal.read-requires-in-Hands-clause-fed
read-requires-in-Hands-clause-fed g c = c.requires.fed

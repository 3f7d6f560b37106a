use Rattle.cmh_lab_stations.proofs.links.read_named.Goals as goal

pub read_from-end-requires-clause-fresh : goal.read_from-end-requires-clause-fresh
read_from-end-requires-clause-fresh g c = c.requires.fresh

pub read_from-end-requires-clause-fed : goal.read_from-end-requires-clause-fed
read_from-end-requires-clause-fed g c = c.requires.fed

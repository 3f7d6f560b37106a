use Rattle.cmh_lab_stations.proofs.links.read_from.Goals as goal

pub read_into-end-requires-clause-fresh : goal.read_into-end-requires-clause-fresh
read_into-end-requires-clause-fresh g c = c.requires.fresh

pub read_into-end-requires-clause-fed : goal.read_into-end-requires-clause-fed
read_into-end-requires-clause-fed g c = c.requires.fed

use Rattle.std.proofs.Common.{ap}
use Rattle.cmh_reader.specs.Reader.{Reader}
use Rattle.cmh_lab_stations.proofs.links.read_link.Goals as goal

pub read_named-called-requires-clause-fresh : goal.read_named-called-requires-clause-fresh
read_named-called-requires-clause-fresh g c = c.new-reader.ensures.stands

pub read_named-called-requires-clause-fed : goal.read_named-called-requires-clause-fed
read_named-called-requires-clause-fed g c = ap (λ (r : Reader). r.starved) c.new-reader.ensures.value

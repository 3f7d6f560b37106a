use Rattle.std.proofs.Common.{subst}
use Rattle.cmh_topology3.specs.Topology.{IsWellFormed}
use Rattle.cmh_topology3.proofs.WellFormed.{well_formed}
use Rattle.cmh_topology3.proofs.topology.Topology.sites.Goals as goal

pub returns-clause-well_formed : goal.returns-clause-well_formed
returns-clause-well_formed c = subst IsWellFormed c.self.view_is (well_formed c.self.inside.world c.self.inside.rows.items c.self.invariant.0)

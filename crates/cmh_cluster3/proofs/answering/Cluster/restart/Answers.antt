use Rattle.std.proofs.Common.{inl, refl}
use Rattle.cmh_cluster3.proofs.answering.Cluster.restart.Goals as goal

pub returns-in-Ok-clause-restarts : goal.returns-in-Ok-clause-restarts
returns-in-Ok-clause-restarts g c =
    inl (c.is_up.ensures.down c.if-is_up.false, refl, record { new = c.in-Ok.node; starts = c.in-Ok.ensures; leaves = c.put.ensures })

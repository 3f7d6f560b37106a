use Rattle.std.proofs.KnownBytes.{Appends-kept}
use Rattle.cmh_cluster.proofs.cluster.say_not_settled.Goals as goal

pub returns-clause-said : goal.returns-clause-said
returns-clause-said g c = Appends-kept _ _ _ _ c.in_ok-write_line.ensures.bytes c.in_ok-flush.ensures.bytes

use Rattle.std.specs.Prelude.{vec_len}
use Rattle.cmh_cluster.proofs.cluster.stop_all.Given as goal

abbrev pub decreases-loop-member : goal.decreases-loop-member
decreases-loop-member g l = vec_len l.members

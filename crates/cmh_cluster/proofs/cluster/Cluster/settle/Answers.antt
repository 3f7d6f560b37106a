use Rattle.std.proofs.Common.{refl, ◌∙◌}
use Rattle.cmh_cluster.proofs.cluster.Cluster.settle.Goals as goal

pub loop-turn-init : goal.loop-turn-init
loop-turn-init g c = refl

pub loop-turn-preserved : goal.loop-turn-preserved
loop-turn-preserved g c = c.look.ensures ∙ c.loop-turn.invariant

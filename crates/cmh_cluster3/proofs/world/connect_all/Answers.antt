use Rattle.std.proofs.Common.{refl}
use Rattle.cmh_cluster3.proofs.Going.{all_same, all_then}
use Rattle.cmh_cluster3.proofs.world.connect_all.Goals as goal

pub loop-link-init : goal.loop-link-init
loop-link-init g c = all_same _ _ _ _ refl

pub loop-link-preserved : goal.loop-link-preserved
loop-link-preserved g c = all_then _ _ _ _ _ c.loop-link.invariant c.connect.ensures

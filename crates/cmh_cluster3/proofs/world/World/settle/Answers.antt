use Rattle.std.proofs.Common.{refl}
use Rattle.cmh_cluster3.proofs.Going.{all_same, all_then}
use Rattle.cmh_cluster3.proofs.world.World.settle.Goals as goal

pub loop-dial-init : goal.loop-dial-init
loop-dial-init g c = all_same _ _ _ _ refl

pub returns-then-not-carry_on : goal.returns-then-not-carry_on
returns-then-not-carry_on g c = all_then _ _ _ _ _ (all_then _ _ _ _ _ c.loop-dial.invariant c.connect_all-self.ensures) c.carry_on.ensures

pub loop-dial-preserved : goal.loop-dial-preserved
loop-dial-preserved g c = all_then _ _ _ _ _ (all_then _ _ _ _ _ c.loop-dial.invariant c.connect_all-self.ensures) c.carry_on.ensures

use Rattle.std.proofs.Common.{refl}
use Rattle.cmh_cluster3.proofs.Going.{all_same, all_then}
use Rattle.cmh_cluster3.proofs.world.carry_on.Goals as goal

pub loop-turn-init : goal.loop-turn-init
loop-turn-init g c = all_same _ _ _ _ refl

pub returns-then-not-carry_all : goal.returns-then-not-carry_all
returns-then-not-carry_all g c = all_then _ _ _ _ _ c.loop-turn.invariant c.carry_all.ensures

pub loop-turn-preserved : goal.loop-turn-preserved
loop-turn-preserved g c = all_then _ _ _ _ _ c.loop-turn.invariant c.carry_all.ensures

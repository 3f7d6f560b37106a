use Rattle.std.proofs.Common.{refl}
use Rattle.cmh_cluster3.proofs.Going.{all_same, all_then}
use Rattle.cmh_cluster3.proofs.world.end_links_of.Goals as goal
use Rattle.cmh_cluster3.proofs.world.end_links_of.Goals.{then-has_end_at, else-has_end_at}

pub loop-link-init : goal.loop-link-init
loop-link-init g c = all_same _ _ _ _ refl

pub loop-link-preserved : goal.loop-link-preserved
loop-link-preserved g c = elim c.if-has_end_at.branch [
  | then-has_end_at w ↦ rw w.nodes-is (all_then _ _ _ _ _ c.loop-link.invariant w.end.ensures)
  | else-has_end_at w ↦ rw w.nodes-is c.loop-link.invariant
]

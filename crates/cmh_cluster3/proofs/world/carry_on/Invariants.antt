use Rattle.cmh_cluster3.specs.Sites.{AllGoOn}
use Rattle.cmh_cluster3.proofs.world.carry_on.Given as goal

abbrev pub invariant-loop-turn : goal.invariant-loop-turn
invariant-loop-turn g l = AllGoOn g.F.SegmentFile.told g.F.SegmentFile.has_failed l.fn.nodes.items l.nodes.items

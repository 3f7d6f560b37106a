use Rattle.cmh_cluster3.specs.Sites.{AllGoOn}
use Rattle.cmh_cluster3.proofs.world.World.settle.Given as goal

abbrev pub invariant-loop-dial : goal.invariant-loop-dial
invariant-loop-dial g l = AllGoOn g.F.SegmentFile.told g.F.SegmentFile.has_failed l.fn.self.nodes.items l.self.nodes.items

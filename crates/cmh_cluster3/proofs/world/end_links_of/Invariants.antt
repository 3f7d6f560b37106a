use Rattle.cmh_cluster3.specs.Sites.{AllGoOn}
use Rattle.cmh_cluster3.proofs.world.end_links_of.Given as goal

abbrev pub invariant-loop-link : goal.invariant-loop-link
invariant-loop-link g l = AllGoOn g.F.SegmentFile.told g.F.SegmentFile.has_failed l.fn.nodes.items l.nodes.items

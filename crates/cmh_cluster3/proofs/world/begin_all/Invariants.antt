use Rattle.std.proofs.Common.{take}
use Rattle.cmh_cluster3.proofs.Starting.{AllRun}
use Rattle.cmh_cluster3.proofs.world.begin_all.Given as goal

abbrev pub invariant-loop-site : goal.invariant-loop-site
invariant-loop-site g l =
    AllRun g.F.SegmentFile.told g.F.SegmentFile.has_failed l.topology (take l.site-index l.sites) l.nodes.items

use Rattle.std.proofs.Common.{suc}
use Rattle.cmh_links3.proofs.Growing.{grows_then}
use Rattle.cmh_links3.proofs.Taking.{hears_more, placed_then}
use Rattle.cmh_links3.proofs.outgoing.Outgoing.listen.Goals as goal

pub returns-in-Close-clause-listens : goal.returns-in-Close-clause-listens
returns-in-Close-clause-listens g c =
    let inv = c.loop-taken.invariant in
    let s = c.loop-taken.self in
    let n = c.loop-taken.node in
    let heard = c.in-Close.ensures.hears in
    record { count = inv.count; c = s; o = n; many = inv.many; last = heard }

pub loop-taken-preserved : goal.loop-taken-preserved
loop-taken-preserved g c =
    let inv = c.loop-taken.invariant in
    record {
      count = suc inv.count;
      many = hears_more inv.count _ _ _ _ _ _ _ inv.many c.in-Taken.ensures.hears;
      placed = placed_then _ _ _ _ _ _ inv.placed c.in-Taken.ensures.stays;
      grows = grows_then g.F.SegmentFile.told g.F.SegmentFile.has_failed _ _ _ inv.grows c.in-Taken.ensures.exact;
    }

pub returns-in-Taken-clause-listens : goal.returns-in-Taken-clause-listens
returns-in-Taken-clause-listens g c =
    let inv = c.loop-taken.invariant in
    (suc inv.count, hears_more inv.count _ _ _ _ _ _ _ inv.many c.in-Taken.ensures.hears)

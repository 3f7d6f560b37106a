use Rattle.std.proofs.Common.{[], refl}
use Rattle.cmh_node3.specs.Nodes.{Node, kept_last}
use Rattle.cmh_node3.proofs.Epochs.{given_up, turned}
use Rattle.cmh_node3.proofs.node.Node.turn.Goals as goal

pub invariant_of-self : goal.invariant_of-self
invariant_of-self g c =
    let told = g.F.SegmentFile.told in
    let failed = g.F.SegmentFile.has_failed in
    let s = c.self.inside in
    let n : Node g.row.F.Denot = record { world = s.world; site = s.site; station = s.station; peers = s.peers.items; others = s.others.items; sealed = s.sealed; last = kept_last s.last } in
    let begun = c.in-Ok.ensures.begun in
    ([], turned told failed c.links_law.ensures.back n c.self.invariant.0 c.args.epoch c.in_ok-segment.segment begun.file c.in-Ok.station c.self.invariant.1 (rw (← c.self.view_is) at c.in_ok-segment.ensures.next) begun.starts)

pub invariant_of-self-in-Err-MayBeNamed : goal.invariant_of-self-in-Err-MayBeNamed
invariant_of-self-in-Err-MayBeNamed g c =
    let told = g.F.SegmentFile.told in
    let failed = g.F.SegmentFile.has_failed in
    let s = c.self.inside in
    let n : Node g.row.F.Denot = record { world = s.world; site = s.site; station = s.station; peers = s.peers.items; others = s.others.items; sealed = s.sealed; last = kept_last s.last } in
    let next = rw (← c.self.view_is) at c.in_ok-segment.ensures.next in
    (c.self.invariant.0, given_up told failed n c.self.invariant.0 next.is_open c.self.invariant.1)

pub returns-in-Ok-clause-ok : goal.returns-in-Ok-clause-ok
returns-in-Ok-clause-ok g c =
    let told = g.F.SegmentFile.told in
    let failed = g.F.SegmentFile.has_failed in
    let s = c.self.inside in
    let n : Node g.row.F.Denot = record { world = s.world; site = s.site; station = s.station; peers = s.peers.items; others = s.others.items; sealed = s.sealed; last = kept_last s.last } in
    let begun = c.in-Ok.ensures.begun in
    let next = rw (← c.self.view_is) at c.in_ok-segment.ensures.next in
    rw (← c.self.view_is) (record {
      new = c.in_ok-segment.segment;
      next = next;
      begins = begun;
      rest = refl;
      exact = turned told failed c.links_law.ensures.back n c.self.invariant.0 c.args.epoch c.in_ok-segment.segment begun.file c.in-Ok.station c.self.invariant.1 next begun.starts;
    })

pub returns-in-Err-MayBeNamed-clause-not : goal.returns-in-Err-MayBeNamed-clause-not
returns-in-Err-MayBeNamed-clause-not g c =
    let next = rw (← c.self.view_is) at c.in_ok-segment.ensures.next in
    rw (← c.self.view_is) (record {
      new = c.in_ok-segment.segment;
      next = next;
      folder = rw c.in-Err-MayBeNamed.field-0-is at c.in-Err-MayBeNamed.ensures.not;
      rest = refl;
    })

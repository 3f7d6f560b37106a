use Rattle.cmh_node3.specs.Nodes.{Node, kept_last}
use Rattle.cmh_node3.proofs.OtherPlaces.{said_exact}
use Rattle.cmh_node3.proofs.node.Node.acknowledge.Goals as goal

pub invariant_of-self : goal.invariant_of-self
invariant_of-self g c =
    let told = g.F.SegmentFile.told in
    let failed = g.F.SegmentFile.has_failed in
    let s = c.self.inside in
    let n : Node g.row.F.Denot = record { world = s.world; site = s.site; station = s.station; peers = s.peers.items; others = s.others.items; sealed = s.sealed; last = kept_last s.last } in
    let steps = c.self.invariant.0 in
    (steps, said_exact told failed n steps c.args.place c.args.line c.args.filled _ _ c.acknowledge_at.new.peers.items c.self.invariant.1 c.acknowledge_at.ensures)

pub returns-clause-exact : goal.returns-clause-exact
returns-clause-exact g c =
    let told = g.F.SegmentFile.told in
    let failed = g.F.SegmentFile.has_failed in
    let s = c.self.inside in
    let n : Node g.row.F.Denot = record { world = s.world; site = s.site; station = s.station; peers = s.peers.items; others = s.others.items; sealed = s.sealed; last = kept_last s.last } in
    rw (← c.self.view_is) (λ steps exact.
    said_exact told failed n steps c.args.place c.args.line c.args.filled _ _ c.acknowledge_at.new.peers.items exact c.acknowledge_at.ensures)

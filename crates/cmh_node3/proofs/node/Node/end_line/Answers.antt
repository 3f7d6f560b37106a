use Rattle.cmh_node3.specs.PeerChanges.{EndsAt}
use Rattle.cmh_node3.specs.Nodes.{Node, kept_last}
use Rattle.cmh_node3.proofs.OtherPlaces.{ends_same, into_exact}
use Rattle.cmh_node3.proofs.node.Node.end_line.Goals as goal

pub invariant_of-self : goal.invariant_of-self
invariant_of-self g c =
    let told = g.F.SegmentFile.told in
    let failed = g.F.SegmentFile.has_failed in
    let s = c.self.inside in
    let n : Node g.row.F.Denot = record { world = s.world; site = s.site; station = s.station; peers = s.peers.items; others = s.others.items; sealed = s.sealed; last = kept_last s.last } in
    let steps = c.self.invariant.0 in
    (steps, into_exact told failed n steps c.args.place (EndsAt c.args.line) c.end_at.new.peers.items c.self.invariant.1 c.end_at.ensures (ends_same c.args.line))

pub returns-clause-exact : goal.returns-clause-exact
returns-clause-exact g c =
    let told = g.F.SegmentFile.told in
    let failed = g.F.SegmentFile.has_failed in
    let s = c.self.inside in
    let n : Node g.row.F.Denot = record { world = s.world; site = s.site; station = s.station; peers = s.peers.items; others = s.others.items; sealed = s.sealed; last = kept_last s.last } in
    rw (← c.self.view_is) (λ steps exact.
    into_exact told failed n steps c.args.place (EndsAt c.args.line) c.end_at.new.peers.items exact c.end_at.ensures (ends_same c.args.line))

use Rattle.cmh_node3.specs.PeerChanges.{GivesSafely}
use Rattle.cmh_node3.specs.Nodes.{Node, kept_last}
use Rattle.cmh_node3.proofs.OtherPlaces.{out_exact, seals_same}
use Rattle.cmh_node3.proofs.node.Node.next_message.Goals as goal

pub invariant_of-self : goal.invariant_of-self
invariant_of-self g c =
    let told = g.F.SegmentFile.told in
    let failed = g.F.SegmentFile.has_failed in
    let s = c.self.inside in
    let n : Node g.row.F.Denot = record { world = s.world; site = s.site; station = s.station; peers = s.peers.items; others = s.others.items; sealed = s.sealed; last = kept_last s.last } in
    let steps = c.self.invariant.0 in
    (steps, out_exact told failed n steps c.args.place (GivesSafely c.args.now c.next_at.result) c.next_at.new.peers.items s.sealed c.self.invariant.1 c.next_at.ensures (λ a b d. d.stands) (seals_same s.sealed))

pub returns-clause-exact : goal.returns-clause-exact
returns-clause-exact g c =
    let told = g.F.SegmentFile.told in
    let failed = g.F.SegmentFile.has_failed in
    let s = c.self.inside in
    let n : Node g.row.F.Denot = record { world = s.world; site = s.site; station = s.station; peers = s.peers.items; others = s.others.items; sealed = s.sealed; last = kept_last s.last } in
    rw (← c.self.view_is) (λ steps exact.
    out_exact told failed n steps c.args.place (GivesSafely c.args.now c.next_at.result) c.next_at.new.peers.items s.sealed exact c.next_at.ensures (λ a b d. d.stands) (seals_same s.sealed))

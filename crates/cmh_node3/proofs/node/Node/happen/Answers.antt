use Rattle.std.proofs.Common.{ℕ, refl, sym, ap, subst, ◌∙◌}
use Rattle.std.proofs.lemmas.Option.{get_or_from_slice_get}
use Rattle.cmh_node3.specs.PeerChanges.{ChangesOut, DoesSafely}
use Rattle.cmh_node3.specs.declared.peer.Peer.{Peer}
use Rattle.cmh_node3.specs.Changes.{sealed_by}
use Rattle.cmh_node3.specs.Nodes.{Node, epoch_of, kept_last}
use Rattle.cmh_node3.proofs.OtherPlaces.{out_exact, seals_after}
use Rattle.cmh_node3.proofs.node.Node.happen.Goals as goal

pub invariant_of-self : goal.invariant_of-self
invariant_of-self g c =
    let told = g.F.SegmentFile.told in
    let failed = g.F.SegmentFile.has_failed in
    let s = c.self.inside in
    let n : Node g.row.F.Denot = record { world = s.world; site = s.site; station = s.station; peers = s.peers.items; others = s.others.items; sealed = s.sealed; last = kept_last s.last } in
    let steps = c.self.invariant.0 in (
      steps,
      out_exact told failed n steps c.args.place (DoesSafely c.args.what.now c.epoch-epoch.result c.args.now c.happen_at-action.result) c.happen_at-action.new.peers.items c.sealed_after-self-inside.result c.self.invariant.1 c.happen_at-action.ensures
          (λ a b d. d.stands) (seals_after s.sealed c.sealed_after-self-inside.result _ c.happen_at-action.result c.in-None.is c.sealed_after-self-inside.ensures),
    )

pub returns-clause-exact : goal.returns-clause-exact
returns-clause-exact g c =
    let told = g.F.SegmentFile.told in
    let failed = g.F.SegmentFile.has_failed in
    let s = c.self.inside in
    let n : Node g.row.F.Denot = record { world = s.world; site = s.site; station = s.station; peers = s.peers.items; others = s.others.items; sealed = s.sealed; last = kept_last s.last } in
    rw (← c.self.view_is) (λ steps exact.
    out_exact told failed n steps c.args.place (DoesSafely c.args.what.now c.epoch-epoch.result c.args.now c.happen_at-action.result) c.happen_at-action.new.peers.items c.sealed_after-self-inside.result exact c.happen_at-action.ensures
    (λ a b d. d.stands) (seals_after s.sealed c.sealed_after-self-inside.result _ c.happen_at-action.result c.in-None.is c.sealed_after-self-inside.ensures))

pub returns-clause-open : goal.returns-clause-open
returns-clause-open g c =
    let s = c.self.inside in
    let peers = s.peers.items in
    let d : ChangesOut c.args.place (DoesSafely c.args.what.now s.station.base.epoch c.args.now c.happen_at-action.result) peers c.happen_at-action.new.peers.items =
    subst (λ (e : ℕ). ChangesOut c.args.place (DoesSafely c.args.what.now e c.args.now c.happen_at-action.result) peers c.happen_at-action.new.peers.items) (c.epoch-epoch.ensures ∙ ap epoch_of (sym c.self.view_is)) c.happen_at-action.ensures in
    rw (← c.self.view_is) (λ open_is. record {
      at_end = d;
      sealed = c.sealed_after-self-inside.ensures ∙ ap (λ (p : Peer). sealed_by p.site c.happen_at-action.result) (c.index.ensures ∙ get_or_from_slice_get peers c.args.place d.peer _ d.there);
      rest = refl;
    })

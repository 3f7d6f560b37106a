use Rattle.std.proofs.Common.{Option, subst, sym}
use Rattle.cmh_node3.specs.declared.sealed.Sealed.{Sealed}
use Rattle.cmh_node3.specs.Nodes.{Node, kept_last}
use Rattle.cmh_node3.proofs.OtherPlaces.{Seals, seals_told, when_sealed}
use Rattle.cmh_node3.proofs.node.Node.told.Goals as goal

pub invariant_of-self : goal.invariant_of-self
invariant_of-self g c =
    let told = g.F.SegmentFile.told in
    let failed = g.F.SegmentFile.has_failed in
    let s = c.self.inside in
    let n : Node g.row.F.Denot = record { world = s.world; site = s.site; station = s.station; peers = s.peers.items; others = s.others.items; sealed = s.sealed; last = kept_last s.last } in
    let steps = c.self.invariant.0 in (
      steps,
      when_sealed told failed n steps c.sealed_when_told-self-inside.result c.self.invariant.1
          (subst (λ (t : Option Sealed). Seals s.sealed t) (sym c.sealed_when_told-self-inside.ensures) (seals_told s.sealed _ c.args.mismatch)),
    )

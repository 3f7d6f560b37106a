use Rattle.std.proofs.Common.{inl, subst, ℕ}
use Rattle.cmh_node3.specs.Steps.{Takes}
use Rattle.cmh_links3.specs.Connections.{Incoming}
use Rattle.cmh_links3.specs.Listening.{MayAcknowledge}
use Rattle.cmh_links3.proofs.incoming.Incoming.take.Goals as goal

pub returns-else-taken-messages-clause-gives : goal.returns-else-taken-messages-clause-gives
returns-else-taken-messages-clause-gives g c =
    let taken = c.in-Ok.taken in
    let between = c.take.new.self in
    let all = c.if-taken-messages.false in
    inl (record {
      taken = taken;
      between = between;
      takes = subst (λ (l : ℕ). Takes g.F.SegmentFile.told g.F.SegmentFile.has_failed c.args.place l c.args.messages.now c.args.now c.args.node.now taken between) c.line.ensures c.in-Ok.ensures.ok;
      all = all;
      said = subst (λ (x : Incoming). MayAcknowledge c.args.place x between c.acknowledge.result c.acknowledge.new.self c.acknowledge.new.node) c.owe.ensures c.acknowledge.ensures.said;
    })

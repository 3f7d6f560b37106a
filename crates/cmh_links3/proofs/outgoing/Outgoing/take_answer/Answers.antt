use Rattle.std.proofs.Common.{rules, inl, refl, subst}
use Rattle.cmh_node3.specs.Nodes.{AtPlace}
use Rattle.cmh_links3.specs.Connections.{Outgoing}
use Rattle.cmh_links3.specs.Speaking.{IsOfPeer}
use Rattle.cmh_links3.proofs.outgoing.Outgoing.take_answer.Goals as goal

-- the peer answered
pub returns-then-is_of_peer-clause-hears : goal.returns-then-is_of_peer-clause-hears
returns-then-is_of_peer-clause-hears g c = inl (record {
  of_peer = subst (λ (a : Outgoing). AtPlace c.args.node.now a.place (IsOfPeer c.args.answer.now.hello c.args.node.now))
      c.self.view_is (c.if-is_of_peer.ensures.yes refl);
  tells = (search rules);
})

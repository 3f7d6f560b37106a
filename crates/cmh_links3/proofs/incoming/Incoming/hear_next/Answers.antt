use Rattle.std.proofs.Common.{sym, ◌∙◌, ap, List, length, arith}
use Rattle.cmh_node3.specs.declared.peer.Peer.{Peer}
use Rattle.cmh_links3.proofs.Taking.{hears_there}
use Rattle.cmh_links3.proofs.incoming.Incoming.hear_next.Goals as goal

pub returns-clause-hears : goal.returns-clause-hears
returns-clause-hears g c =
    let here = sym c.place.ensures ∙ c.in-Some.is in
    let test = c.if-place-peers.false in
    let many = ap (λ (l : List Peer). length l) c.peers.ensures.value in
    hears_there g.F.SegmentFile.told g.F.SegmentFile.has_failed c.args.self.now.place c.in-Some.place c.args.now c.args.self.now c.args.node.now
    c.listen.result c.listen.new.self c.listen.new.node here (omega (arith, test, many)) c.listen.ensures.listens

use Rattle.cmh_node3.proofs.Beginning.{begins, links_are_rows}
use Rattle.cmh_node3.proofs.node.Node.new.Goals as goal

pub meet_all-requires : goal.meet_all-requires
meet_all-requires g c = links_are_rows g.F.SegmentFile.told g.F.SegmentFile.has_failed c.args.topology.now c.args.site c.requires.0 c.args.station c.requires.1

pub invariant_of-result : goal.invariant_of-result
invariant_of-result g c =
    let met = c.in-Ok.met in
    let said = c.in-Ok.ensures in
    let all = begins g.F.SegmentFile.told g.F.SegmentFile.has_failed c.args.topology.now c.args.site c.requires.0 c.args.station c.meet_all.new.station met.others.items met.peers.items c.world.result met.sealed
    c.requires.1 said.others said.ascending said.handed said.story said.given c.world.ensures in
    (c.args.station.kept.waiting, all.exact)

pub returns-in-Ok-clause-begins : goal.returns-in-Ok-clause-begins
returns-in-Ok-clause-begins g c =
    let met = c.in-Ok.met in
    let said = c.in-Ok.ensures in
    begins g.F.SegmentFile.told g.F.SegmentFile.has_failed c.args.topology.now c.args.site c.requires.0 c.args.station c.meet_all.new.station met.others.items met.peers.items c.world.result met.sealed
    c.requires.1 said.others said.ascending said.handed said.story said.given c.world.ensures

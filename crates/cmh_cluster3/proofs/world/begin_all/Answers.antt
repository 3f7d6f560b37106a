use Rattle.cmh_topology3.specs.Topology.{sites_of}
use Rattle.cmh_cluster3.proofs.Starting.{all_run, one_more}
use Rattle.cmh_cluster3.proofs.world.begin_all.Goals as goal

pub loop-site-preserved : goal.loop-site-preserved
loop-site-preserved g c =
    one_more g.F.SegmentFile.told g.F.SegmentFile.has_failed c.args.topology.now c.sites-sites.result.now c.loop-site.site-index c.loop-site.nodes.items
    c.push.new.self.items c.site-item.result c.in_ok-node.node c.loop-site-test.true c.site-item.is c.loop-site.invariant c.in_ok-node.ensures c.in_ok-push.ensures.items

pub returns : goal.returns
returns g c =
    all_run g.F.SegmentFile.told g.F.SegmentFile.has_failed c.args.topology.now c.sites-sites.result.now (sites_of c.args.topology.now) c.loop-site.site-index
    c.loop-site.nodes.items c.loop-site.invariant c.loop-site-test.false c.sites-sites.ensures.value

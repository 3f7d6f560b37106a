use Rattle.cmh_topology3.specs.Topology.{sites_of}
use Rattle.cmh_draw.specs.Arrows.{spot_of}
use Rattle.cmh_draw3.specs.Inner.Ways as inner
use Rattle.cmh_draw.proofs.EachLemmas.{each_next}
use Rattle.cmh_draw3.proofs.arrows.add_from_site.Goals as goal

pub loop-row-preserved : goal.loop-row-preserved
loop-row-preserved c =
    let from = c.args.from.now in
    each_next (λ row site. inner.to_site c.args.run.now.segments.now (spot_of c.args.run.now.columns.now from.row from.site) (spot_of c.args.run.now.columns.now row site) from.site site)
    c.sites-site-items.result.now (sites_of c.args.run.now.topology.now) c.sites-site-items.ensures.value
    c.loop-row.row c.site-item.result _ _ _ c.loop-row-test.true c.site-item.is
    c.loop-row.invariant c.in_ok-add_to_site.ensures

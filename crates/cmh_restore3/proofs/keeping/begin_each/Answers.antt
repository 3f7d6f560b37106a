use Rattle.cmh_restore3.proofs.Beginnings.{begins_all, begins_more}
use Rattle.cmh_restore3.proofs.keeping.begin_each.Goals as goal

pub loop-site-preserved : goal.loop-site-preserved
loop-site-preserved g c =
    begins_more g.K.NewJournals.begins c.args.segments.now c.args.sites.now c.loop-site.site-index c.site-item.result c.args.keeper.now c.loop-site.keeper c.begin_one.new.keeper c.loop-site-test.true c.site-item.is c.loop-site.invariant c.in_ok-begin_one.ensures

pub returns : goal.returns
returns g c =
    begins_all g.K.NewJournals.begins c.args.segments.now c.args.sites.now c.loop-site.site-index c.args.keeper.now c.loop-site.keeper c.loop-site-test.false c.loop-site.invariant

use Rattle.std.proofs.Common.{subst, take_all}
use Rattle.std.specs.List.{All}
use Rattle.std.proofs.lemmas.List.Elements.{All-more}
use Rattle.cmh_restore3.proofs.keeping.see_none.Goals as goal

pub loop-site-preserved : goal.loop-site-preserved
loop-site-preserved g c =
    let lacks = g.K.NewJournals.lacks c.args.keeper.now in
    All-more lacks c.args.sites.now c.loop-site.site-index c.site-item.result c.loop-site-test.true c.loop-site.invariant (subst lacks c.site-item.is c.in_ok-see_none.ensures)

pub returns : goal.returns
returns g c =
    subst (All (g.K.NewJournals.lacks c.args.keeper.now)) (take_all c.loop-site.site-index c.args.sites.now c.loop-site-test.false) c.loop-site.invariant

use Rattle.std.proofs.Common.{◌≡◌, ◌++◌, drop}
use Rattle.cmh_draw.specs.Arrows.{spot_of}
use Rattle.cmh_draw.specs.Each.{each_from}
use Rattle.cmh_draw3.specs.Inner.Ways as inner
use Rattle.cmh_topology3.specs.Topology.{sites_of}
use Rattle.cmh_draw3.proofs.arrows.add_from_site.Given as goal

abbrev pub invariant-loop-row : goal.invariant-loop-row
invariant-loop-row l =
    l.all.items ++ each_from (λ row site. inner.to_site l.run.segments.now (spot_of l.run.columns.now l.from.row l.from.site) (spot_of l.run.columns.now row site) l.from.site site) l.row (drop l.row (sites_of l.run.topology.now))
    ≡ l.fn.all.items ++ each_from (λ row site. inner.to_site l.run.segments.now (spot_of l.run.columns.now l.from.row l.from.site) (spot_of l.run.columns.now row site) l.from.site site) 0 (sites_of l.run.topology.now)

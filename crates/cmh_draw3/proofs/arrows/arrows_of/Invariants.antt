use Rattle.std.proofs.Common.{◌≡◌, ◌++◌, drop}
use Rattle.cmh_draw3.specs.Arrows as spec
use Rattle.cmh_draw.specs.Each.{each_from}
use Rattle.cmh_draw3.specs.Inner.Ways as inner
use Rattle.cmh_topology3.specs.Topology.{sites_of}
use Rattle.cmh_draw3.proofs.arrows.arrows_of.Given as goal

abbrev pub invariant-loop-row : goal.invariant-loop-row
invariant-loop-row l =
    l.all.items ++ each_from (λ row site. inner.from_site l.run.topology.now l.run.segments.now l.run.columns.now row site) l.row (drop l.row (sites_of l.run.topology.now))
    ≡ spec.arrows_of l.run.topology.now l.run.segments.now l.run.columns.now

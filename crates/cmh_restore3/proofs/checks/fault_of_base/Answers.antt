use Rattle.std.proofs.Common.{subst, take_all}
use Rattle.std.specs.List.{All}
use Rattle.std.proofs.lemmas.List.Elements.{All-more}
use Rattle.cmh_topology3.specs.Topology.{Topology}
use Rattle.cmh_bases3.specs.Bases.{IsBaseOf}
use Rattle.cmh_segment3.specs.declared.segment.Segment.{Segment}
use Rattle.cmh_restore3.proofs.checks.fault_of_base.Goals as goal

abbrev begins : Topology → Segment → Type 0
begins t g = IsBaseOf t g.header.site g.header.epoch g.base

pub loop-segment-preserved : goal.loop-segment-preserved
loop-segment-preserved c =
    let at = begins c.args.topology.now in
    All-more at c.args.segments.now c.loop-segment.segment-index c.segment-item.result c.loop-segment-test.true c.loop-segment.invariant
    (subst at c.segment-item.is c.in-Ok.ensures.ok.base_is)

pub returns-clause-none : goal.returns-clause-none
returns-clause-none c = λ none.
    subst (All (begins c.args.topology.now)) (take_all c.loop-segment.segment-index c.args.segments.now c.loop-segment-test.false) c.loop-segment.invariant

use Rattle.std.proofs.Common.{sym, ◌∙◌}
use Rattle.cmh_audit3.proofs.Places.{none_more}
use Rattle.cmh_audit3.proofs.stops.place_of.Goals as goal

pub loop-i-preserved : goal.loop-i-preserved
loop-i-preserved c = none_more c.args.segments.now c.loop-i.i c.args.site c.index-segments-i.result c.loop-i-test.true c.index-segments-i.is c.loop-i.invariant (sym c.eq.ensures ∙ c.if-eq.false)

use Rattle.std.proofs.Common.{ℕ, ◌+◌, List, Vec, map, sym, subst, take}
use Rattle.std.specs.Global.{Global}
use Rattle.cmh_segment3.specs.Segment.{IsSegmentOf}
use Rattle.cmh_segment3.specs.declared.segment.Segment.{Segment}
use Rattle.cmh_draw3.specs.Draws.{AreSegmentsOf}
use Rattle.cmh_draw3.proofs.SegmentLemmas.{segments_more}
use Rattle.cmh_draw3.proofs.drawing.segments_of.Goals as goal

pub loop-bytes-preserved : goal.loop-bytes-preserved
loop-bytes-preserved c =
    let segment = c.in-Ok.segment in
    let left = c.in-Ok.field-0-1 in
    let is_file = subst (λ (bytes : List ℕ). IsSegmentOf segment left bytes) c.deref.ensures.value c.in-Ok.ensures.ok in
    subst (λ (all : List Segment). AreSegmentsOf (map (λ (f : Vec ℕ Global). f.items) (take (c.loop-bytes.bytes-index + 1) c.args.files.now)) all)
    (sym c.in_ok-push-in-Ok.ensures.items)
    (segments_more (λ (f : Vec ℕ Global). f.items) c.args.files.now c.loop-bytes.bytes-index c.bytes-item.result c.loop-bytes.segments.items segment left
    c.loop-bytes-test.true c.bytes-item.is c.loop-bytes.invariant is_file)

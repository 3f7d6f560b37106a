use Rattle.std.proofs.Common.{◌==◌, List, ap, sym, ◌∙◌, if◌then◌else◌}
use Rattle.cmh_segment3.specs.declared.entry.Entry.{Entry}
use Rattle.cmh_audit3.specs.Inner.Queues.{Queues, journal_over, queue_at}
use Rattle.cmh_audit3.proofs.Runs.{over_end, over_more, over_none}
use Rattle.cmh_audit3.proofs.queues.Queues.of.Goals as goal

pub loop-segment-init : goal.loop-segment-init
loop-segment-init c s = ap (λ (q : Queues). journal_over c.args.segments.items (queue_at q) s) c.new.ensures.items ∙ over_none c.args.segments.items s

pub loop-segment-preserved : goal.loop-segment-preserved
loop-segment-preserved c =
    let g = c.in-Some.segment in
    over_more c.args.segments.items c.loop-segment.left.items c.pop.new.self.items g c.loop-segment.queues c.put.new.self c.in-Some.ensures.items
    (λ s. c.in_ok-put.ensures s ∙ ap (λ (es : List Entry). if g.header.site == s then es else queue_at c.loop-segment.queues s) c.into_rows.ensures) c.loop-segment.invariant

pub returns : goal.returns
returns c = over_end c.args.segments.items c.loop-segment.left.items c.loop-segment.queues (sym c.loop-segment.left.ok.0 ∙ c.in_default.ensures.cases.0) c.loop-segment.invariant

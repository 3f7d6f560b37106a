use Rattle.std.proofs.Common.{◌+◌, take, refl, ap, ◌∙◌, arith}
use Rattle.cmh_model3.specs.Journals.{receipts_of}
use Rattle.cmh_wire3.specs.Mark.{mark_on}
use Rattle.cmh_node3.proofs.Counting.{count_more, fewer_receipts, mark_more, receipt_more, receipt_same}
use Rattle.cmh_node3.proofs.links.receipts.Goals as goal
use Rattle.cmh_node3.proofs.links.receipts.Goals.{in-Some+in_ok-count-in-Some, in-None}

pub returns-in_err-count-in-Some : goal.returns-in_err-count-in-Some
returns-in_err-count-in-Some c =
    let es = c.args.entries.now in
    let i = c.loop-entry.entry-index in
    let so_far = receipts_of c.args.from (take i es) in
    let next = receipt_more c.args.from es i c.entry-item.result c.in-Some.message c.loop-entry-test.true c.entry-item.is c.in-Some.ensures in
    let more = count_more c.args.before.got so_far _ c.in-Some.message c.loop-entry.count (c.loop-entry.count + 1) next c.loop-entry.invariant.counted refl in
    let fewer = fewer_receipts c.args.from es (i + 1) in
    let full = c.in_err-count-in-Some.ensures in
    rw c.from_residual.ensures (omega (arith, more, fewer, full))

pub loop-entry-preserved : goal.loop-entry-preserved
loop-entry-preserved c =
    let es = c.args.entries.now in
    let i = c.loop-entry.entry-index in
    let e = c.entry-item.result in
    let so_far = receipts_of c.args.from (take i es) in
    elim c.match-got_from.branch [
      | in-Some+in_ok-count-in-Some w ↦
          let m = w.in-Some.message in
          let next = receipt_more c.args.from es i e m c.loop-entry-test.true c.entry-item.is w.in-Some.ensures in
          record {
            counted = count_more c.args.before.got so_far _ m c.loop-entry.count c.match-got_from.count next c.loop-entry.invariant.counted (w.count-is ∙ w.in_ok-count-in-Some.ensures.1);
            marked = mark_more c.args.before.mark so_far _ m c.loop-entry.mark c.match-got_from.mark next c.loop-entry.invariant.marked
                (w.mark-is ∙ w.on-mark.ensures ∙ ap (mark_on c.loop-entry.mark) (w.as_slice.ensures.value ∙ w.encode.ensures));
          }
      | in-None w ↦
          let next = receipt_same c.args.from es i e c.loop-entry-test.true c.entry-item.is w.in-None.ensures in
          record {
            counted = rw next (w.count-is ∙ c.loop-entry.invariant.counted);
            marked = rw next (w.mark-is ∙ c.loop-entry.invariant.marked);
          }
    ]

use Rattle.std.proofs.Common.{ap, ◌∙◌, length, length-append, map, take, arith}
use Rattle.cmh_model3.specs.Journals.{message_from, receipts_of}
use Rattle.cmh_segment3.specs.Entries.{step_of}
use Rattle.cmh_files3.proofs.TurnLemmas.{receipts_next}
use Rattle.cmh_files3.proofs.entries.count_received.Goals as goal

pub loop-entry-preserved : goal.loop-entry-preserved
loop-entry-preserved c =
    let long = ap length (receipts_next c.args.from c.args.entries.now c.loop-entry.entry-index c.entry-item.result c.loop-entry-test.true c.entry-item.is) ∙ length-append (receipts_of c.args.from (map step_of (take c.loop-entry.entry-index c.args.entries.now))) (message_from c.args.from c.entry-item.result.event) in
    let so_far = c.loop-entry.invariant.0 in
    let within = c.loop-entry.invariant.1 in
    let one = c.count_got-count.ensures.value in
    let bound = c.count_got-count.ensures.bound in
    (omega (arith, long, so_far, one), omega (arith, within, bound))

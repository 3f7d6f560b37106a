use Rattle.std.proofs.Common.{◌+◌, ◌∙◌, ap}
use Rattle.cmh_report3.specs.Transit.{kept}
use Rattle.cmh_report3.proofs.Counting.{got_more}
use Rattle.cmh_report3.proofs.totals.got_in.Goals as goal

pub loop-event-preserved : goal.loop-event-preserved
loop-event-preserved c =
    c.saturating_add-got.ensures ∙ ap (λ n. kept (c.loop-event.got + n)) c.got_by.ensures
    ∙ got_more c.args.events.now c.loop-event.event-index c.event-item.result c.loop-event-test.true c.event-item.is c.loop-event.got c.loop-event.invariant

use Rattle.std.proofs.Common.{ℕ, ◌+◌, ◌∙◌, List, length, ap}
use Rattle.cmh_model3.specs.declared.frame.Message.{Message}
use Rattle.cmh_report3.specs.Transit.{kept}
use Rattle.cmh_report3.proofs.Counting.{sent_more}
use Rattle.cmh_report3.proofs.totals.sent_in.Goals as goal

pub loop-event-preserved : goal.loop-event-preserved
loop-event-preserved c =
    c.saturating_add-sent.ensures ∙ ap (λ (xs : List (ℕ × Message)). kept (c.loop-event.sent + length xs)) c.as_slice.ensures
    ∙ sent_more c.args.events.now c.loop-event.event-index c.event-item.result c.loop-event-test.true c.event-item.is c.loop-event.sent c.loop-event.invariant

use Rattle.std.proofs.Common.{ℕ, ◌+◌, List, sym, ap, subst, ◌∙◌}
use Rattle.cmh_model3.specs.Stops.{is_within}
use Rattle.cmh_report3.proofs.Stopping.{IsStopSoFar, stop_past, stop_within}
use Rattle.cmh_report3.proofs.stop.stop_of.Goals as goal
use Rattle.cmh_report3.proofs.stop.stop_of.Goals.{then-is_within+in_ok-take_event, else-is_within+in_ok-add_ended+in_ok-add_left}

pub loop-event-preserved : goal.loop-event-preserved
loop-event-preserved c =
    let n = c.args.number in
    let es = c.args.events.now in
    let i = c.loop-event.event-index in
    let e = c.event-item.result in
    let clocks = c.loop-event.clocks in
    let next = c.take.new.self in
    let stamp = c.in_ok-stamp.ensures.stamp in
    let tests = ap (λ s. is_within n s e.entry.event) (sym stamp) ∙ sym c.is_within.ensures in
    let P : List (List ℕ) → List (List ℕ) → List (List ℕ) → Type 0 = λ x y z. IsStopSoFar n es (i + 1) next x y z in
    elim c.if-is_within.branch [
      | then-is_within+in_ok-take_event w ↦
          subst (λ x. P x c.if-is_within.ended c.if-is_within.left) (sym w.waits-is)
          (subst (λ y. P w.take_event.new.waits y c.if-is_within.left) (sym w.ended-is)
          (subst (λ z. P w.take_event.new.waits c.loop-event.ended z) (sym w.left-is)
          (stop_within es i e c.loop-event-test.true c.event-item.is clocks next c.in_ok-stamp.ensures.clocks n c.loop-event.waits c.loop-event.ended c.loop-event.left c.loop-event.invariant
          (tests ∙ w.if-is_within.true) w.take_event.new.waits w.in_ok-take_event.ensures)))
      | else-is_within+in_ok-add_ended+in_ok-add_left w ↦
          subst (λ x. P x c.if-is_within.ended c.if-is_within.left) (sym w.waits-is)
          (subst (λ y. P c.loop-event.waits y c.if-is_within.left) (sym w.ended-is)
          (subst (λ z. P c.loop-event.waits w.add_ended.new.ended z) (sym w.left-is)
          (stop_past es i e c.loop-event-test.true c.event-item.is clocks next c.in_ok-stamp.ensures.clocks n c.loop-event.waits c.loop-event.ended c.loop-event.left c.loop-event.invariant
          (tests ∙ w.if-is_within.false) w.add_ended.new.ended w.add_left.new.left w.in_ok-add_ended.ensures w.in_ok-add_left.ensures)))
    ]

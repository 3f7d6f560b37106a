use Rattle.std.proofs.Common.{ℕ, Bool, if◌then◌else◌, sym, ap, ◌∙◌}
use Rattle.cmh_model3.specs.Stops.{declared_at}
use Rattle.cmh_report3.specs.Declarations.{newest_stop}
use Rattle.cmh_report3.specs.Inner.ClockTables.{clock_at}
use Rattle.cmh_report3.proofs.Stopping.{fits_on, is_eq, newest_on}
use Rattle.cmh_report3.proofs.stop.newest_stop.Goals as goal
use Rattle.cmh_report3.proofs.stop.newest_stop.Goals.{then-eq, else-eq}

pub loop-event-preserved : goal.loop-event-preserved
loop-event-preserved c =
    let es = c.args.events.now in
    let i = c.loop-event.event-index in
    let e = c.event-item.result in
    let p = c.args.process in
    let clocks = c.loop-event.clocks in
    let next = c.take.new.self in
    let moved = c.in_ok-take.ensures.clocks in
    let at : ℕ = declared_at (clock_at clocks e.site) e.entry.event in
    let choose = λ (b : Bool). if b then at else c.loop-event.stop in
    let tests = sym (is_eq e.entry.declared p) ∙ sym c.eq.ensures in
    record {
      fit = fits_on es i e c.loop-event-test.true c.event-item.is clocks next moved c.loop-event.invariant.fit;
      same = newest_on es i e c.loop-event-test.true c.event-item.is clocks next moved p c.loop-event.stop c.if-eq.stop (newest_stop p 0 (λ s. 0) es)
          (elim c.if-eq.branch [
            | then-eq w ↦
                w.stop-is ∙ w.declared_at-stop.ensures ∙ ap (λ (q : ℕ). declared_at q e.entry.event) w.at.ensures
                ∙ sym (ap choose (tests ∙ w.if-eq.true))
            | else-eq w ↦ w.stop-is ∙ sym (ap choose (tests ∙ w.if-eq.false))
          ])
          c.loop-event.invariant.same;
    }

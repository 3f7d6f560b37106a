use Rattle.std.proofs.Common.{◌≡◌, drop}
use Rattle.cmh_report3.specs.Declarations.{newest_stop}
use Rattle.cmh_report3.specs.Inner.ClockTables.{FitClocks, clock_at}
use Rattle.cmh_report3.proofs.stop.newest_stop.Given as goal

abbrev pub invariant-loop-event : goal.invariant-loop-event
invariant-loop-event l = record {
  fit : FitClocks (λ s. clock_at l.clocks s) (drop l.event-index l.events);
  same : newest_stop l.process l.stop (λ s. clock_at l.clocks s) (drop l.event-index l.events)
      ≡ newest_stop l.process 0 (λ s. 0) l.events;
}

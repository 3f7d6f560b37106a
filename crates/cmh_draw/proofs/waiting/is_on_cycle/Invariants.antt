use Rattle.std.proofs.Common.{◌≡◌, [], drop}
use Rattle.std.specs.Prelude.{unwrap_or}
use Rattle.std.specs.List.{list_any}
use Rattle.cmh_audit.specs.Reports.{cycle_of}
use Rattle.cmh_draw.specs.Inner.Steps.{has_step}
use Rattle.cmh_draw.specs.Marks as spec
use Rattle.cmh_draw.proofs.waiting.is_on_cycle.Given as goal

abbrev pub invariant-loop-process : goal.invariant-loop-process
invariant-loop-process l =
    list_any (λ i. has_step l.asker l.holder (unwrap_or (cycle_of l.report i) [])) (drop l.process-index l.report.declared)
    ≡ spec.is_on_cycle l.report l.asker l.holder

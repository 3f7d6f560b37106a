use Rattle.std.proofs.Common.{◌≡◌, drop, not}
use Rattle.std.specs.List.{list_any}
use Rattle.cmh_segment3.specs.declared.segment.Segment.{Segment}
use Rattle.cmh_audit3.specs.Set.{begins_world}
use Rattle.cmh_audit3.proofs.set.has_later.Given as goal

abbrev pub invariant-loop-segment : goal.invariant-loop-segment
invariant-loop-segment l = list_any (λ (g : Segment). not (begins_world g)) (drop l.segment-index l.segments) ≡ list_any (λ (g : Segment). not (begins_world g)) l.segments

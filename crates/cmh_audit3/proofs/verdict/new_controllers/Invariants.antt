use Rattle.std.proofs.Common.{take}
use Rattle.cmh_model3.specs.State.{empty_state}
use Rattle.cmh_audit3.specs.Standing.{StandIn}
use Rattle.cmh_audit3.proofs.verdict.new_controllers.Given as goal

-- the controllers of the segments so far
abbrev pub invariant-loop-segment : goal.invariant-loop-segment
invariant-loop-segment l = StandIn l.topology (λ s. empty_state) (take l.segment-index l.segments) l.controllers.items

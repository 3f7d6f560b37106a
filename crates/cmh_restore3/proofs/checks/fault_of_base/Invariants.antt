use Rattle.std.proofs.Common.{take}
use Rattle.cmh_restore3.specs.Restored.{BeginLawfully}
use Rattle.cmh_restore3.proofs.checks.fault_of_base.Given as goal

-- the segments so far begin with states of the rules
abbrev pub invariant-loop-segment : goal.invariant-loop-segment
invariant-loop-segment l = BeginLawfully l.topology (take l.segment-index l.segments)

use Rattle.std.proofs.Common.{take}
use Rattle.cmh_history3.specs.Inner.Leading.{AreRestored}
use Rattle.cmh_history3.proofs.chain.controllers_of.Given as goal

-- the controllers of the segments so far
abbrev pub invariant-loop-segment : goal.invariant-loop-segment
invariant-loop-segment l = AreRestored l.topology (take l.segment-index l.segments) l.controllers.items

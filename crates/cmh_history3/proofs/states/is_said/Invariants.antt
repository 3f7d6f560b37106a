use Rattle.std.proofs.Common.{◌↔◌, drop}
use Rattle.cmh_controller3.specs.Controller.{state_of}
use Rattle.cmh_history3.specs.Says.{SaysState}
use Rattle.cmh_history3.proofs.states.is_said.Given as goal

-- what is left says the state just where all segments do
abbrev pub invariant-loop-segment : goal.invariant-loop-segment
invariant-loop-segment l = SaysState (drop l.segment-index l.next) l.controller.site (state_of l.controller) ↔ SaysState l.next l.controller.site (state_of l.controller)

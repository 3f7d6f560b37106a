use Rattle.cmh_controller3.specs.Controller.{state_of}
use Rattle.cmh_audit3.proofs.Lengths.{Going}
use Rattle.cmh_audit3.proofs.lawful.lawful_length.Given as goal

-- the entries so far are lawful, and the controller stands where they lead
abbrev pub invariant-loop-place : goal.invariant-loop-place
invariant-loop-place l = Going l.fn.controller.topology l.fn.controller.site (state_of l.fn.controller) l.entries l.place l.controller

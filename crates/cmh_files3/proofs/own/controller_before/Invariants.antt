use Rattle.cmh_model3.specs.State.{empty_state}
use Rattle.cmh_audit3.proofs.Lengths.{Going}
use Rattle.cmh_files3.proofs.own.controller_before.Given as goal

-- the entries so far are lawful, and the controller stands where they lead
abbrev pub invariant-loop-entry : goal.invariant-loop-entry
invariant-loop-entry l = Going l.topology l.fn.site empty_state l.entries l.entry-index l.controller

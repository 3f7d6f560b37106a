use Rattle.std.proofs.Common.{◌≡◌, take}
use Rattle.cmh_wire3.specs.Mark.{mark_on}
use Rattle.cmh_wire3.specs.Wire.{spelled}
use Rattle.cmh_resume3.proofs.sender.mark_of_first.Given as goal

-- the mark of those so far
abbrev pub invariant-loop-at : goal.invariant-loop-at
invariant-loop-at l = l.folded ≡ mark_on l.fn.mark (spelled (take l.at l.messages.items))

use Rattle.std.proofs.Common.{map, take}
use Rattle.cmh_long_audit3.specs.Wholes.{AreReadUpTo}
use Rattle.cmh_long_audit3.proofs.wholes.journals_up_to.Given as goal

-- the journals so far were read
abbrev pub invariant-loop-i : goal.invariant-loop-i
invariant-loop-i l = AreReadUpTo l.last (map (λ segments. map (λ file. file.items) segments.items) (take l.i l.files)) l.journals.items

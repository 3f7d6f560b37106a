use Rattle.std.proofs.Common.{◌≡◌, drop}
use Rattle.cmh_resume3.proofs.sender.drop_first.Given as goal

-- so many are dropped
abbrev pub invariant-loop-at : goal.invariant-loop-at
invariant-loop-at l = l.messages.items ≡ drop l.at l.initial.messages.items

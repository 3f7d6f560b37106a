use Rattle.std.proofs.Common.{◌≡◌, take}
use Rattle.cmh_talk.proofs.language.are_same.Given as goal

abbrev pub invariant-loop-at : goal.invariant-loop-at
invariant-loop-at l = take l.at l.some ≡ take l.at l.others

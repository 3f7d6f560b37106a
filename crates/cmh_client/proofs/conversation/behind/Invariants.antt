use Rattle.std.proofs.Common.{◌≡◌, take}
use Rattle.cmh_client.proofs.conversation.behind.Given as goal

abbrev pub invariant-loop-at : goal.invariant-loop-at
invariant-loop-at g l = take l.at l.before ≡ take l.at l.items

use Rattle.std.proofs.Common.{◌≡◌, [], drop}
use Rattle.cmh_talk3.specs.News.{left_of}
use Rattle.cmh_talk3.proofs.telling.left_pairs.Given as goal

abbrev pub invariant-loop-message : goal.invariant-loop-message
invariant-loop-message l = left_of l.controller l.pairs.items (drop l.message-index l.messages) ≡ left_of l.controller [] l.messages

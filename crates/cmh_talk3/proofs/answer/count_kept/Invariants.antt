use Rattle.std.proofs.Common.{◌≡◌, drop}
use Rattle.cmh_talk3.specs.Answers.{kept_after}
use Rattle.cmh_talk3.proofs.answer.count_kept.Given as goal

abbrev pub invariant-loop-peer : goal.invariant-loop-peer
invariant-loop-peer l = kept_after l.total (drop l.peer-index l.peers) ≡ kept_after 0 l.peers

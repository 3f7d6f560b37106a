use Rattle.std.proofs.Common.{◌≡◌, ◌+◌, ◌≤◌, drop}
use Rattle.cmh_talk3.specs.Answers.{open_out}
use Rattle.cmh_talk3.proofs.answer.count_open_out.Given as goal

abbrev pub invariant-loop-peer : goal.invariant-loop-peer
invariant-loop-peer l = record {
  few : l.count ≤ l.peer-index;
  counted : l.count + open_out (drop l.peer-index l.peers) ≡ open_out l.peers;
}

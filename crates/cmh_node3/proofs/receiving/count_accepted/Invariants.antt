use Rattle.std.proofs.Common.{◌≡◌, ◌+◌, ◌≤◌, drop}
use Rattle.cmh_node3.specs.Steps.{accepted}
use Rattle.cmh_node3.proofs.receiving.count_accepted.Given as goal

abbrev pub invariant-loop-answer : goal.invariant-loop-answer
invariant-loop-answer l = record {
  few : l.count ≤ l.answer-index;
  counted : l.count + accepted (drop l.answer-index l.answers) ≡ accepted l.answers;
}

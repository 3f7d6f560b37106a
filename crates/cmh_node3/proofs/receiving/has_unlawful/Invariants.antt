use Rattle.std.proofs.Common.{◌≡◌, drop}
use Rattle.std.specs.List.{list_any}
use Rattle.cmh_node3.specs.Steps.{is_unlawful}
use Rattle.cmh_node3.proofs.receiving.has_unlawful.Given as goal

abbrev pub invariant-loop-answer : goal.invariant-loop-answer
invariant-loop-answer l = list_any is_unlawful (drop l.answer-index l.answers) ≡ list_any is_unlawful l.answers

use Rattle.std.proofs.Common.{take}
use Rattle.std.specs.Io.KnownBytes.{Appends}
use Rattle.std.specs.List.{flat_map}
use Rattle.cmh_talk.specs.Together.{answer_text}
use Rattle.cmh_host.proofs.together.write_all.Given as goal

abbrev pub invariant-loop-answer : goal.invariant-loop-answer
invariant-loop-answer g l =
    Appends l.initial.out.written l.out.written (flat_map answer_text (take l.answer-index l.answers))

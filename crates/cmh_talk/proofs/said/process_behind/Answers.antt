use Rattle.std.proofs.Common.{sym, ◌∙◌}
use Rattle.cmh_talk.proofs.NoQuestions.{no_number}
use Rattle.cmh_talk.proofs.said.process_behind.Goals as goal

pub returns-in_default : goal.returns-in_default
returns-in_default c process names =
    no_number _ _ _ _ process (sym c.new-words.ensures ∙ c.in_ok-first.ensures.word) c.in_default.ensures names

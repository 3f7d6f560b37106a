use Rattle.std.proofs.Common.{inl, inr}
use Rattle.cmh_console.proofs.Numerals.{no_numeral}
use Rattle.cmh_console.proofs.words.number.Goals as goal
use Rattle.cmh_console.proofs.words.number.Goals.{else-numeral-word-via-then-numeral-word+else-numeral-gt0, else-numeral-word-via-else-numeral-word}

pub returns-else-numeral-word : goal.returns-else-numeral-word
returns-else-numeral-word c = no_numeral c.args.word.now _ _ c.first_numeral-numeral.ensures (elim c.else-numeral-word.branch [
  | else-numeral-word-via-then-numeral-word+else-numeral-gt0 w ↦ inr (w.if-numeral-word.true, w.if-numeral-gt0.false)
  | else-numeral-word-via-else-numeral-word w ↦ inl w.if-numeral-word.false
])

use Rattle.cmh_console.proofs.Numerals.{Reads}
use Rattle.cmh_console.proofs.words.first_numeral.Given as goal

abbrev pub invariant-loop-len : goal.invariant-loop-len
invariant-loop-len l = Reads l.line l.len l.number

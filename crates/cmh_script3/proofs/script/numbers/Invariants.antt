use Rattle.std.proofs.Common.{length}
use Rattle.cmh_console.proofs.Spellings.{SpellSoFar}
use Rattle.cmh_script3.proofs.script.numbers.Given as goal

abbrev pub decreases-loop-words : goal.decreases-loop-words
decreases-loop-words l = length l.words

abbrev pub invariant-loop-words : goal.invariant-loop-words
invariant-loop-words l = SpellSoFar l.initial.words l.words l.numbers.items

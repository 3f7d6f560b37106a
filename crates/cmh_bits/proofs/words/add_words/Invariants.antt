use Rattle.cmh_bits.proofs.WordLemmas.{AreChanged, either}
use Rattle.cmh_bits.proofs.words.add_words.Given as goal

abbrev pub invariant-loop-at : goal.invariant-loop-at
invariant-loop-at l = AreChanged either l.words l.fn.words l.fn.others l.at

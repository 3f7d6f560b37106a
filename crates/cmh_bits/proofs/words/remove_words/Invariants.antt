use Rattle.cmh_bits.proofs.WordLemmas.{AreChanged, beyond}
use Rattle.cmh_bits.proofs.words.remove_words.Given as goal

abbrev pub invariant-loop-at : goal.invariant-loop-at
invariant-loop-at l = AreChanged beyond l.words l.fn.words l.fn.others l.at

use Rattle.std.proofs.lemmas.Nat.{le_or_l}
use Rattle.cmh_bits.proofs.BitLemmas.{either_bit}
use Rattle.cmh_bits.proofs.word.either.Goals as goal

pub returns-clause-bits : goal.returns-clause-bits
returns-clause-bits c = λ k. either_bit c.args.word c.args.other k

pub returns-clause-no_less : goal.returns-clause-no_less
returns-clause-no_less c = le_or_l c.args.word c.args.other

use Rattle.cmh_bits.proofs.BitLemmas.{cleared_bit, less_without}
use Rattle.cmh_bits.proofs.word.without_bit.Goals as goal

pub returns-clause-bits : goal.returns-clause-bits
returns-clause-bits c = λ k. cleared_bit c.args.word c.args.place k c.ranges.word.fits c.requires

pub returns-clause-less : goal.returns-clause-less
returns-clause-less c = less_without c.args.word c.args.place c.ranges.word.fits c.requires

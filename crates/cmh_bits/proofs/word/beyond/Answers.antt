use Rattle.cmh_bits.proofs.BitLemmas.{beyond_bit}
use Rattle.cmh_bits.proofs.word.beyond.Goals as goal

pub returns : goal.returns
returns c = λ k. beyond_bit c.args.word c.args.other k c.ranges.word.fits c.ranges.other.fits

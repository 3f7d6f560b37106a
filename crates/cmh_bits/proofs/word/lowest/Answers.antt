use Rattle.cmh_bits.proofs.BitLemmas.{lowest_bit, lowest_least}
use Rattle.cmh_bits.proofs.word.lowest.Goals as goal

pub returns-clause-set : goal.returns-clause-set
returns-clause-set c = lowest_bit c.args.word c.requires c.ranges.word.fits

pub returns-clause-least : goal.returns-clause-least
returns-clause-least c = λ k set. lowest_least c.args.word k c.requires c.ranges.word.fits set

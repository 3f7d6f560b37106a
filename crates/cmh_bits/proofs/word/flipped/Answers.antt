use Rattle.cmh_bits.proofs.BitLemmas.{flipped_bit}
use Rattle.cmh_bits.proofs.word.flipped.Goals as goal

pub returns : goal.returns
returns c = λ k. flipped_bit c.args.word c.args.place k c.requires

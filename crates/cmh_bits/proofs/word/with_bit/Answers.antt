use Rattle.cmh_bits.proofs.BitLemmas.{set_bit}
use Rattle.cmh_bits.proofs.word.with_bit.Goals as goal

pub returns : goal.returns
returns c = λ k. set_bit c.args.word c.args.place k c.requires

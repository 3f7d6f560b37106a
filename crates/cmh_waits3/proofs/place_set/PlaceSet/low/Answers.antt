use Rattle.cmh_waits3.proofs.Bits.{low_word}
use Rattle.cmh_waits3.proofs.place_set.PlaceSet.low.Goals as goal

pub returns : goal.returns
returns c = λ k. low_word c.args.self.words k

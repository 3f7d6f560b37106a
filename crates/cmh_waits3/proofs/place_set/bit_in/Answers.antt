use Rattle.cmh_waits3.proofs.Bits.{bit_here}
use Rattle.cmh_waits3.proofs.place_set.bit_in.Goals as goal

pub returns-then-word-place : goal.returns-then-word-place
returns-then-word-place c = λ j _. bit_here c.args.word c.args.place j c.if-word-place.true

use Rattle.cmh_waits3.proofs.Bits.{NoneBefore}
use Rattle.cmh_waits3.proofs.place_set.PlaceSet.first.Given as goal

-- the words so far have no bit
abbrev pub invariant-loop-at : goal.invariant-loop-at
invariant-loop-at l = NoneBefore l.fn.self.words l.at

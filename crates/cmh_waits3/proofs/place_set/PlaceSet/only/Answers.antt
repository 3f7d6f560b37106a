use Rattle.cmh_waits3.proofs.Bits.{only_one}
use Rattle.cmh_waits3.proofs.place_set.PlaceSet.only.Goals as goal

pub returns : goal.returns
returns c = only_one c.args.place _ _ _ _ c.requires c.bit_in.ensures c.bit_in-2.ensures c.bit_in-3.ensures c.bit_in-4.ensures

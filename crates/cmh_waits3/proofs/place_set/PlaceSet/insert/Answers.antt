use Rattle.std.proofs.Common.{◌≡◌, ◌/◌, ◌<◌, length, arith, rules}
use Rattle.std.proofs.lemmas.List.{get_or_default}
use Rattle.cmh_waits3.proofs.Bits.{inserted}
use Rattle.cmh_waits3.proofs.place_set.PlaceSet.insert.Goals as goal

pub returns : goal.returns
returns c =
    let long : length c.args.self.now.words ≡ 4 = search rules in
    let small = c.requires in
    let inside : c.args.place / 64 < length c.args.self.now.words = omega (arith, long, small) in
    λ k. inserted c.args.self.now.words c.args.place _ k inside (get_or_default c.args.self.now.words (c.args.place / 64) 0 _ inside)

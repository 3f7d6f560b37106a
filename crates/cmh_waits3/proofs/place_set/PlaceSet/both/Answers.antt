use Rattle.std.proofs.Common.{◌≡◌, ◌&&◌, length, refl, rules}
use Rattle.cmh_waits3.proofs.Bits.{both_bit, pairwise}
use Rattle.cmh_waits3.proofs.place_set.PlaceSet.both.Goals as goal

pub returns : goal.returns
returns c =
    let long : length c.args.self.words ≡ 4 = search rules in
    let other : length c.args.other.words ≡ 4 = search rules in
    pairwise (λ a b. a && b) refl c.args.self.words c.args.other.words long other _ _ _ _ (λ k _. both_bit _ _ k) (λ k _. both_bit _ _ k) (λ k _. both_bit _ _ k) (λ k _. both_bit _ _ k)

use Rattle.std.proofs.Common.{◌≡◌, ◌<◌, ◌^◌, ◌&&◌, not, length, get_or, refl, rules}
use Rattle.cmh_waits3.proofs.Bits.{beyond_bit, pairwise}
use Rattle.cmh_waits3.proofs.place_set.PlaceSet.beyond.Goals as goal

pub returns : goal.returns
returns c =
    let long : length c.args.self.words ≡ 4 = search rules in
    let other : length c.args.other.words ≡ 4 = search rules in
    let w = c.well_formed in
    let first : get_or c.args.other.words 0 0 < 2 ^ 64 = search rules in
    let second : get_or c.args.other.words 1 0 < 2 ^ 64 = search rules in
    let third : get_or c.args.other.words 2 0 < 2 ^ 64 = search rules in
    let fourth : get_or c.args.other.words 3 0 < 2 ^ 64 = search rules in
    pairwise (λ a b. a && not b) refl c.args.self.words c.args.other.words long other _ _ _ _
    (λ k. beyond_bit _ _ k first) (λ k. beyond_bit _ _ k second) (λ k. beyond_bit _ _ k third) (λ k. beyond_bit _ _ k fourth)

use Rattle.std.proofs.Common.{◌<◌, length, subst, arith}
use Rattle.cmh_station.specs.LinkEnds.{Tap}
use Rattle.cmh_lab_stations.specs.Pairs.{IsSameTap}
use Rattle.cmh_lab_stations.proofs.Belonging.{all_same, same_at}
use Rattle.cmh_lab_stations.proofs.taps.take_from.Goals as goal

pub returns-in_err-at : goal.returns-in_err-at
returns-in_err-at c = all_same _

pub returns-then-at-len : goal.returns-then-at-len
returns-then-at-len c =
    let at : c.in_ok-at.at < length c.args.taps.now.items = omega (arith, c.if-at-len.true, c.len.ensures) in
    let same = subst (λ (t : Tap). IsSameTap t c.take.new.self) c.index_mut.ensures.value (record { to = c.take.ensures.to; ring = c.take.ensures.ring }) in
    same_at c.args.taps.now.items c.in_ok-at.at c.take.new.self _ at same

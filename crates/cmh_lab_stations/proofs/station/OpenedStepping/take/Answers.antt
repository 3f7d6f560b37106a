use Rattle.cmh_lab_stations.proofs.Belonging.{same_taps}
use Rattle.cmh_lab_stations.proofs.station.OpenedStepping.take.Goals as goal

pub invariant_of-self : goal.invariant_of-self
invariant_of-self g c =
    let s = c.self.inside in
    let h = c.self.invariant in
    record {
      taps_are = same_taps s.station.core.links s.taps.items c.take_from.new.taps.items c.take_from.ensures h.taps_are;
      first_is = h.first_is;
      second_is = h.second_is;
      told_is = h.told_is;
    }

use Rattle.cmh_lab_stations.proofs.Belonging.{same_reader}
use Rattle.cmh_lab_stations.proofs.station.Opened.read.Goals as goal

pub invariant_of-self : goal.invariant_of-self
invariant_of-self g c =
    let s = c.self.inside in
    let h = c.self.invariant in
    record {
      taps_are = h.taps_are;
      first_is = same_reader (λ r. r.book) s.first c.read_one.new.first s.station.board.book c.read_one.ensures.first h.first_is;
      second_is = same_reader (λ r. r.book) s.second c.read_one.new.second s.station.board.book c.read_one.ensures.second h.second_is;
      told_is = h.told_is;
    }

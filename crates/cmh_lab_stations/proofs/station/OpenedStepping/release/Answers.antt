use Rattle.std.proofs.Common.{ap}
use Rattle.cmh_shared.specs.Boards.{Listed}
use Rattle.cmh_lab_stations.proofs.Belonging.{belongs, released}
use Rattle.cmh_lab_stations.proofs.station.OpenedStepping.release.Goals as goal

pub invariant_of-self : goal.invariant_of-self
invariant_of-self g c =
    let s = c.self.inside in
    belongs s.station c.release.new.self s.taps.items s.first s.second s.told c.self.invariant
    (released _ _ c.release.ensures.core.1) (ap (λ (board : Listed). board.book) c.release.ensures.board)

use Rattle.cmh_lab_stations.proofs.Belonging.{belongs, stepped}
use Rattle.cmh_lab_stations.proofs.station.OpenedStepping.step.Goals as goal

pub invariant_of-self : goal.invariant_of-self
invariant_of-self g c =
    let s = c.self.inside in
    belongs s.station c.step.new.self s.taps.items s.first s.second s.told c.self.invariant
    (stepped s.station c.step.new.self c.args.event.now c.step.result c.step.ensures.ok c.step.ensures.refused)
    c.step.ensures.board.book

use Rattle.cmh_lab_stations.proofs.Belonging.{belongs, stepped_all}
use Rattle.cmh_lab_stations.proofs.station.OpenedStepping.step_all.Goals as goal

pub invariant_of-self : goal.invariant_of-self
invariant_of-self g c =
    let s = c.self.inside in
    belongs s.station c.step_all.new.self s.taps.items s.first s.second s.told c.self.invariant
    (stepped_all s.station c.step_all.new.self c.args.events.now c.step_all.result (λ v. v.items) (λ v. c.args.events.now)
    c.step_all.ensures.ok c.step_all.ensures.refused)
    c.step_all.ensures.board.book

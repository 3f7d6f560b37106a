use Rattle.std.proofs.Common.{length, take}
use Rattle.cmh_lab_stations.proofs.Belonging.{belongs, stepped_all}
use Rattle.cmh_lab_stations.proofs.station.OpenedStepping.step_until.Goals as goal

pub invariant_of-self : goal.invariant_of-self
invariant_of-self g c =
    let s = c.self.inside in
    belongs s.station c.step_until.new.self s.taps.items s.first s.second s.told c.self.invariant
    (stepped_all s.station c.step_until.new.self c.args.events.now c.step_until.result (λ v. v.items) (λ v. take (length v.items) c.args.events.now)
    c.step_until.ensures.ok c.step_until.ensures.refused)
    c.step_until.ensures.board.book

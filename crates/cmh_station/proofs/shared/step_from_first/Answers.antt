use Rattle.std.proofs.Common.{rules}
use Rattle.cmh_station.proofs.Alone.{can_first, from_first}
use Rattle.cmh_station.proofs.shared.step_from_first.Goals as goal

pub returns-in-Err-step_all-clause-refused : goal.returns-in-Err-step_all-clause-refused
returns-in-Err-step_all-clause-refused g c =
    let a = c.args.station.now.core in
    let events = c.args.events.now in
    let can = can_first a events c.index-events-0.result (c.check.ensures.accepted.0 (search rules)) c.requires.some c.index-events-0.is in
    from_first a events c.step_all.new.self.core c.in-Err-step_all.refusal can c.in-Err-step_all.ensures.refused.0

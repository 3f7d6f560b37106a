use Rattle.cmh_model3.proofs.Ends.{ends_by_withdrawal, each_cycle_ends_by_withdrawal, stop_is_fixed}
use Rattle.cmh_model3.proofs.Cycles.{each_cycle_ends_later}
use Rattle.cmh_model3.proofs.laws.withdrawal_law.Goals as goal

pub returns : goal.returns
returns c = record { of_a_declaration = ends_by_withdrawal; of_each_cycle = each_cycle_ends_by_withdrawal; later = each_cycle_ends_later; fixed = stop_is_fixed }

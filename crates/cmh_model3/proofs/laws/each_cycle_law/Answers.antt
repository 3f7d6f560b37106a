use Rattle.cmh_model3.proofs.Greatest.{each_cycle_declared}
use Rattle.cmh_model3.proofs.laws.each_cycle_law.Goals as goal

pub returns : goal.returns
returns c = record { declared = each_cycle_declared }

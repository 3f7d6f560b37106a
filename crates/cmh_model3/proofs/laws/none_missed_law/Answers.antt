use Rattle.cmh_model3.proofs.Silent.{no_silent_deadlock}
use Rattle.cmh_model3.proofs.laws.none_missed_law.Goals as goal

pub returns : goal.returns
returns c = record { none = no_silent_deadlock }

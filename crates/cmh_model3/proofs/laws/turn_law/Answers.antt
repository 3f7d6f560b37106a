use Rattle.cmh_model3.proofs.Releases.{turns_go_on}
use Rattle.cmh_model3.proofs.laws.turn_law.Goals as goal

pub returns : goal.returns
returns c = record { goes_on = turns_go_on }

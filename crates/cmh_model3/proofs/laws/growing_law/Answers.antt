use Rattle.cmh_model3.proofs.Extends.{accepted_extends, nothing_is_run}
use Rattle.cmh_model3.proofs.Senders.{runs_go_on}
use Rattle.cmh_model3.proofs.laws.growing_law.Goals as goal

pub returns : goal.returns
returns c = record { empty = nothing_is_run; grows = accepted_extends; goes_on = runs_go_on }

use Rattle.cmh_model3.proofs.Runs.{no_phantom}
use Rattle.cmh_model3.proofs.Orders.{no_phantom_in_any_order}
use Rattle.cmh_model3.proofs.laws.no_phantom_law.Goals as goal

pub returns : goal.returns
returns c = record { at_its_stop = no_phantom; in_any_order = no_phantom_in_any_order }

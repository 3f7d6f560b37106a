use Rattle.cmh_model3.proofs.Deliveries.{each_wait}
use Rattle.cmh_model3.proofs.laws.wait_law.Goals as goal

pub returns : goal.returns
returns c = record { each = each_wait }

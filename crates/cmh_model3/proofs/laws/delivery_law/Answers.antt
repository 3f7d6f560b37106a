use Rattle.cmh_model3.proofs.Deliveries.{deliveries_accepted}
use Rattle.cmh_model3.proofs.laws.delivery_law.Goals as goal

pub returns : goal.returns
returns c = record { accepted = deliveries_accepted }

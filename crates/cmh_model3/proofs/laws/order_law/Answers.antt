use Rattle.cmh_model3.proofs.Orders.{orders_agree}
use Rattle.cmh_model3.proofs.laws.order_law.Goals as goal

pub returns : goal.returns
returns c = record { agree = orders_agree }

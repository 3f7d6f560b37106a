use Rattle.cmh_model3.proofs.Witness.{deadlock_happens}
use Rattle.cmh_model3.proofs.laws.witness_law.Goals as goal

pub returns : goal.returns
returns c = record { happens = deadlock_happens }

use Rattle.cmh_epochs3.proofs.Chaining.{one_proof}
use Rattle.cmh_epochs3.proofs.world_law.Goals as goal

pub returns : goal.returns
returns c = record { one = one_proof }

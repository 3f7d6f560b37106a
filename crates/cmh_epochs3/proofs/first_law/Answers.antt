use Rattle.cmh_epochs3.proofs.Chaining.{first_proof}
use Rattle.cmh_epochs3.proofs.first_law.Goals as goal

pub returns : goal.returns
returns c = record { runs = first_proof }

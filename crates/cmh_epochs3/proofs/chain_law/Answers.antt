use Rattle.cmh_epochs3.proofs.Chaining.{chain_proof, from_first_proof}
use Rattle.cmh_epochs3.proofs.chain_law.Goals as goal

pub returns : goal.returns
returns c = record { chain = chain_proof; from_first = from_first_proof }

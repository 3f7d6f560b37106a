use Rattle.cmh_epochs3.proofs.Splitting.{exactly_proof, stamps_proof}
use Rattle.cmh_epochs3.proofs.exact_law.Goals as goal

pub returns : goal.returns
returns c = record { exactly = exactly_proof; by_stamp = stamps_proof c.stop_law.ensures.consistent }

use Rattle.cmh_model3.proofs.Sent.{one_outcome}
use Rattle.cmh_model3.proofs.Senders.{some_outcome}
use Rattle.cmh_model3.proofs.laws.outcome_law.Goals as goal

pub returns : goal.returns
returns c = record { some_outcome = some_outcome; one_outcome = one_outcome }

use Rattle.cmh_wire3.proofs.Messages.{one_message}
use Rattle.cmh_wire3.proofs.laws.one_spelling_law.Goals as goal

pub returns : goal.returns
returns c = one_message

use Rattle.cmh_resume3.proofs.Spellings.{one_acknowledgement}
use Rattle.cmh_resume3.proofs.spelling_laws.one_acknowledgement_law.Goals as goal

pub returns : goal.returns
returns c = one_acknowledgement

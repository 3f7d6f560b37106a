use Rattle.cmh_resume3.proofs.Spellings.{one_answer}
use Rattle.cmh_resume3.proofs.spelling_laws.one_answer_law.Goals as goal

pub returns : goal.returns
returns c = one_answer

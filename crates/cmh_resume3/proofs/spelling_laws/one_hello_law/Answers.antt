use Rattle.cmh_resume3.proofs.Spellings.{one_hello}
use Rattle.cmh_resume3.proofs.spelling_laws.one_hello_law.Goals as goal

pub returns : goal.returns
returns c = one_hello

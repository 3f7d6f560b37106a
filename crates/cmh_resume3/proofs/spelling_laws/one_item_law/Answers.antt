use Rattle.cmh_resume3.proofs.Spellings.{one_item}
use Rattle.cmh_resume3.proofs.spelling_laws.one_item_law.Goals as goal

pub returns : goal.returns
returns c = one_item

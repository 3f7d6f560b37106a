use Rattle.cmh_model3.proofs.Facts.{lawful_states}
use Rattle.cmh_model3.proofs.laws.journal_law.Goals as goal

pub returns : goal.returns
returns c = record { states = lawful_states }

-- Rules for what is told.
use Rattle.cmh_journal.proofs.Telling.{known_and_both, known_and_nothing}

pub ruleset known_steps = (known_and_both, known_and_nothing)

use Rattle.cmh_frames.proofs.Scripts.{granted_is_lawful, blocked_again, probe_is_ignored}
use Rattle.cmh_frames.proofs.examples.probe_of_an_answered_wait.Goals as goal

pub returns-clause-lawful : goal.returns-clause-lawful
returns-clause-lawful c = granted_is_lawful

pub returns-clause-blocked : goal.returns-clause-blocked
returns-clause-blocked c = blocked_again

pub returns-clause-ignored : goal.returns-clause-ignored
returns-clause-ignored c = probe_is_ignored

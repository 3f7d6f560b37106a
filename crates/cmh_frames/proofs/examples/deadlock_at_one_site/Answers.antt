use Rattle.cmh_frames.proofs.Scripts.{one_site_run, both_blocked}
use Rattle.cmh_frames.proofs.examples.deadlock_at_one_site.Goals as goal

pub returns-clause-run : goal.returns-clause-run
returns-clause-run c = one_site_run

pub returns-clause-blocked : goal.returns-clause-blocked
returns-clause-blocked c = both_blocked

use Rattle.cmh_frames.proofs.Scripts.{probe_run, marked_state}
use Rattle.cmh_frames.proofs.examples.deadlock_found_by_a_probe.Goals as goal

pub returns-clause-run : goal.returns-clause-run
returns-clause-run c = probe_run

pub returns-clause-state : goal.returns-clause-state
returns-clause-state c = marked_state

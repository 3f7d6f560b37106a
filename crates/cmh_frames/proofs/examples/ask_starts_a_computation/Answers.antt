use Rattle.cmh_frames.proofs.Scripts.{request_then_probe, declared_at_ask_run, one_site_drained}
use Rattle.cmh_frames.proofs.examples.ask_starts_a_computation.Goals as goal

pub returns-clause-requests_first : goal.returns-clause-requests_first
returns-clause-requests_first c = request_then_probe

pub returns-clause-run : goal.returns-clause-run
returns-clause-run c = declared_at_ask_run

pub returns-clause-drained : goal.returns-clause-drained
returns-clause-drained c = one_site_drained

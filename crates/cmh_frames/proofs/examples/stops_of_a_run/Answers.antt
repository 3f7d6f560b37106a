use Rattle.cmh_frames.proofs.Scripts.{stops_after_asks, stops_before_the_sending}
use Rattle.cmh_frames.proofs.examples.stops_of_a_run.Goals as goal

pub returns-clause-consistent : goal.returns-clause-consistent
returns-clause-consistent c = stops_after_asks

pub returns-clause-not_consistent : goal.returns-clause-not_consistent
returns-clause-not_consistent c = stops_before_the_sending

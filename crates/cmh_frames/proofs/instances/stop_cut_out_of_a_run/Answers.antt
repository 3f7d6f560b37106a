use Rattle.std.proofs.Common.{arith}
use Rattle.cmh_frames.proofs.instances.stop_cut_out_of_a_run.Goals as goal

pub returns-clause-not_consistent : goal.returns-clause-not_consistent
returns-clause-not_consistent c consistent = omega (arith, consistent 2 1)

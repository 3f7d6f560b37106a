use Rattle.cmh_frames.proofs.LongerRuns.{run_first, run_longer}
use Rattle.cmh_world.proofs.laws.growing_law.Goals as goal

pub returns : goal.returns
returns c = record { empty = run_first c.args.topology.now; grows = run_longer c.args.topology.now }

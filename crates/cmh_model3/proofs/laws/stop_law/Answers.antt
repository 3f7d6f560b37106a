use Rattle.cmh_model3.proofs.Stops.{cuts_at_stamps}
use Rattle.cmh_model3.proofs.Cuts.{stop_is_run}
use Rattle.cmh_model3.proofs.Clocks.{clocks_rise}
use Rattle.cmh_model3.proofs.laws.stop_law.Goals as goal

pub returns : goal.returns
returns c = record { consistent = cuts_at_stamps; run = stop_is_run; clocks = clocks_rise }

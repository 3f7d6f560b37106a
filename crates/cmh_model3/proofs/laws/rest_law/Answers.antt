use Rattle.cmh_model3.proofs.Rests.{rest_is_bounded, rest_comes, probes_are_bounded}
use Rattle.cmh_model3.proofs.Cycles.{each_cycle_found}
use Rattle.cmh_model3.proofs.laws.rest_law.Goals as goal

pub returns : goal.returns
returns c = record { bounded = rest_is_bounded; probes = probes_are_bounded; comes = rest_comes; found = each_cycle_found }

use Rattle.cmh_model3.proofs.Victims.{victims_are_enough, victims_end_each_cycle}
use Rattle.cmh_model3.proofs.Releases.{released_are_enough, victims_can_end}
use Rattle.cmh_model3.proofs.laws.victim_law.Goals as goal

pub returns : goal.returns
returns c = record { none_left = victims_are_enough; released = released_are_enough; each_ends = victims_end_each_cycle; can = victims_can_end }

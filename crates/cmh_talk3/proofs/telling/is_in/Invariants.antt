use Rattle.std.proofs.Common.{◌≡◌, drop}
use Rattle.cmh_model3.specs.Lists.{in_list}
use Rattle.cmh_talk3.proofs.telling.is_in.Given as goal

abbrev pub invariant-loop-other : goal.invariant-loop-other
invariant-loop-other l = in_list (drop l.other-index l.processes) l.process ≡ in_list l.processes l.process

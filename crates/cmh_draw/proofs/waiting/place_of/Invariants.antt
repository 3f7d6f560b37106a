use Rattle.std.proofs.Common.{◌≡◌, drop}
use Rattle.cmh_draw.specs.Each.{number_from}
use Rattle.cmh_draw.proofs.waiting.place_of.Given as goal

abbrev pub invariant-loop-row : goal.invariant-loop-row
invariant-loop-row l =
    number_from l.row (drop l.row l.members) l.process ≡ number_from 0 l.members l.process

use Rattle.std.proofs.Common.{take}
use Rattle.std.specs.List.{All}
use Rattle.cmh_history3.specs.Between.{Agrees}
use Rattle.cmh_history3.proofs.between.disagreement_from.Given as goal

-- the bases agree on the links to the sites so far
abbrev pub invariant-loop-to : goal.invariant-loop-to
invariant-loop-to l = All (Agrees l.segments l.from) (take l.to-index l.sites)

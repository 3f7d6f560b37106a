use Rattle.std.proofs.Common.{take}
use Rattle.std.specs.List.{All}
use Rattle.cmh_history3.specs.Between.{Agrees}
use Rattle.cmh_history3.proofs.between.disagreement.Given as goal

-- the bases agree on all links from the sites so far
abbrev pub invariant-loop-from : goal.invariant-loop-from
invariant-loop-from l = All (λ a. All (Agrees l.segments a) l.sites) (take l.from-index l.sites)

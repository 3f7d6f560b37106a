use Rattle.std.proofs.Common.{take}
use Rattle.std.specs.List.{All}
use Rattle.cmh_restore3.proofs.keeping.see_none.Given as goal

-- the sites so far have none
abbrev pub invariant-loop-site : goal.invariant-loop-site
invariant-loop-site g l = All (g.K.NewJournals.lacks l.keeper) (take l.site-index l.sites)

use Rattle.std.proofs.Common.{take}
use Rattle.cmh_restore3.specs.Keeping.{BeginsEach}
use Rattle.cmh_restore3.proofs.keeping.begin_each.Given as goal

-- the journals of the sites so far were begun
abbrev pub invariant-loop-site : goal.invariant-loop-site
invariant-loop-site g l = BeginsEach g.K.NewJournals.begins l.segments (take l.site-index l.sites) l.initial.keeper l.keeper

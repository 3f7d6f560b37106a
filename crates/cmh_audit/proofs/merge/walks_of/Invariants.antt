use Rattle.std.proofs.Common.{◌≡◌, take}
use Rattle.cmh_audit.specs.Inner.Merging.{entries_each}
use Rattle.cmh_audit.proofs.merge.walks_of.Given as goal

abbrev pub invariant-loop-journal : goal.invariant-loop-journal
invariant-loop-journal l = l.walks.items ≡ entries_each (take l.journal-index l.journals)

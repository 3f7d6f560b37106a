use Rattle.std.proofs.Common.{take}
use Rattle.cmh_audit.proofs.CountingLemmas.{Counting}
use Rattle.cmh_audit.proofs.count.count_entries.Given as goal

abbrev pub invariant-loop-journal : goal.invariant-loop-journal
invariant-loop-journal l = Counting (take l.journal-index l.journals) l.journal-index l.count

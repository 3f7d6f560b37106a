use Rattle.std.proofs.Common.{◌≡◌, drop}
use Rattle.cmh_audit.specs.Inner.Faults.{has_journal}
use Rattle.cmh_audit.proofs.set.is_covered.Given as goal

abbrev pub invariant-loop-journal : goal.invariant-loop-journal
invariant-loop-journal l = has_journal (drop l.journal-index l.journals) l.site ≡ has_journal l.journals l.site

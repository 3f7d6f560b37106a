use Rattle.std.proofs.Common.{◌≡◌, drop}
use Rattle.cmh_audit.specs.Journals.{journal_of}
use Rattle.cmh_audit.proofs.entries.entries_at.Given as goal

abbrev pub invariant-loop-journal : goal.invariant-loop-journal
invariant-loop-journal l =
    journal_of (drop l.journal-index l.journals) l.site ≡ journal_of l.journals l.site

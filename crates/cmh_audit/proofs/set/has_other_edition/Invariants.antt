use Rattle.std.proofs.Common.{◌≡◌, drop}
use Rattle.std.specs.List.{list_any}
use Rattle.cmh_audit.specs.Inner.Faults.{is_of_other_edition}
use Rattle.cmh_audit.proofs.set.has_other_edition.Given as goal

abbrev pub invariant-loop-journal : goal.invariant-loop-journal
invariant-loop-journal l = list_any (is_of_other_edition l.edition) (drop l.journal-index l.journals) ≡ list_any (is_of_other_edition l.edition) l.journals

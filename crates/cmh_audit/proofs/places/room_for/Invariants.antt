use Rattle.std.proofs.Common.{◌<◌}
use Rattle.std.specs.List.{AllWithin}
use Rattle.cmh_journal.specs.Journal.{Journal}
use Rattle.cmh_audit.proofs.places.room_for.Given as goal

abbrev pub invariant-loop-journal : goal.invariant-loop-journal
invariant-loop-journal l = AllWithin (λ (j : Journal). j.site < l.room) l.journals 0 l.journal-index

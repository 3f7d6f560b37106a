use Rattle.std.proofs.Common.{◌≡◌, ◌++◌, drop}
use Rattle.cmh_audit3.specs.Journals.{journal_of}
use Rattle.cmh_draw3.specs.EpochParts.{epochs_from}
use Rattle.cmh_draw3.proofs.epoch_part.epochs_of_site.Given as goal

abbrev pub invariant-loop-entry : goal.invariant-loop-entry
invariant-loop-entry l =
    l.epochs.items ++ epochs_from l.epoch (drop l.entry-index (journal_of l.fn.wholes l.fn.site)) ≡ epochs_from 0 (journal_of l.fn.wholes l.fn.site)

use Rattle.std.proofs.Common.{◌≡◌, map, take}
use Rattle.cmh_files.specs.Reasons.{held_before}
use Rattle.cmh_page.specs.Fates.{fates_of}
use Rattle.cmh_page.proofs.held.fates_before.Given as goal

abbrev pub invariant-loop-journal : goal.invariant-loop-journal
invariant-loop-journal l = map (λ row. row.items) l.rows.items
    ≡ map (λ j. fates_of l.topology j.site (held_before l.journals l.stops j.site)) (take l.journal-index l.journals)

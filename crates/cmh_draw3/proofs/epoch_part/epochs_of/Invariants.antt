use Rattle.std.proofs.Common.{◌≡◌, ◌++◌, drop, map}
use Rattle.cmh_topology3.specs.Topology.{sites_of}
use Rattle.cmh_audit3.specs.Journals.{journal_of}
use Rattle.cmh_draw3.specs.EpochParts.{epochs_at, epochs_from}
use Rattle.cmh_draw3.proofs.epoch_part.epochs_of.Given as goal

abbrev pub invariant-loop-site : goal.invariant-loop-site
invariant-loop-site l =
    map (λ row. row.items) l.epochs.items ++ map (λ site. epochs_from 0 (journal_of l.wholes site)) (drop l.site-index (sites_of l.world))
    ≡ epochs_at l.world l.wholes

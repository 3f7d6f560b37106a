use Rattle.std.proofs.Common.{◌≡◌, ◌++◌, drop, map}
use Rattle.cmh_draw3.specs.EpochParts.{columns_in}
use Rattle.cmh_draw3.proofs.epoch_part.columns_of_epoch.Given as goal

abbrev pub invariant-loop-mark : goal.invariant-loop-mark
invariant-loop-mark l =
    l.columns.items ++ columns_in l.epoch (map (λ row. row.items) l.epochs) (drop l.mark-index l.marks)
    ≡ columns_in l.epoch (map (λ row. row.items) l.epochs) l.marks

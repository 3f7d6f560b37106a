use Rattle.std.proofs.Common.{take}
use Rattle.cmh_carriers.specs.Table.{AllFresh}
use Rattle.cmh_carriers.proofs.table.fresh_rows.Given as goal

abbrev pub invariant-loop-other : goal.invariant-loop-other
invariant-loop-other l = AllFresh (take l.other-index l.other-items) l.site l.rows.items

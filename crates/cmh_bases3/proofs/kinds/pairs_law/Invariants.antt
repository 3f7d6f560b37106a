use Rattle.std.proofs.Common.{take}
use Rattle.std.specs.List.{AllByRecursion}
use Rattle.cmh_segment3.specs.Base.{IsPairRow}
use Rattle.cmh_bases3.proofs.kinds.pairs_law.Given as goal

-- of those so far
abbrev pub invariant-loop-row : goal.invariant-loop-row
invariant-loop-row l = AllByRecursion IsPairRow (take l.row-index l.rows)

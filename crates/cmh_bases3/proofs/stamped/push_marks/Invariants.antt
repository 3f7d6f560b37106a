use Rattle.std.proofs.Common.{◌≡◌, ◌++◌, map, take}
use Rattle.std.specs.List.{AllByRecursion, filter}
use Rattle.cmh_runs.specs.Number.{IsNumber}
use Rattle.cmh_controller3.specs.declared.mark_row.Mark.{Mark}
use Rattle.cmh_bases3.specs.Inner.Rows.{is_mark, row_of_mark}
use Rattle.cmh_bases3.proofs.stamped.push_marks.Given as goal

-- the marks so far
abbrev pub invariant-loop-mark : goal.invariant-loop-mark
invariant-loop-mark l = record {
  rows : l.rows.items ≡ l.initial.rows.items ++ map (row_of_mark l.process) (filter is_mark (take l.mark-index l.mark-items));
  numbers : AllByRecursion (λ (m : Mark). IsNumber m.origin) (take l.mark-index l.mark-items);
}

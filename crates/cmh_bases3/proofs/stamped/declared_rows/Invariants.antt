use Rattle.std.proofs.Common.{◌≡◌, map, take}
use Rattle.std.specs.List.{AllByRecursion}
use Rattle.cmh_runs.specs.Number.{IsNumber}
use Rattle.cmh_segment3.specs.States.{stamp_of}
use Rattle.cmh_bases3.specs.Inner.Rows.{stamped_of}
use Rattle.cmh_bases3.proofs.stamped.declared_rows.Given as goal

-- the declared ones so far
abbrev pub invariant-loop-process : goal.invariant-loop-process
invariant-loop-process l = record {
  rows : l.rows.items ≡ map (stamped_of (stamp_of l.stops)) (take l.process-index l.process-items);
  numbers : AllByRecursion IsNumber (take l.process-index l.process-items);
}

use Rattle.std.proofs.Common.{◌≡◌, ◌++◌, map, take}
use Rattle.cmh_bases3.specs.Inner.Rows.{row_of_wait}
use Rattle.cmh_bases3.proofs.stamped.push_waits.Given as goal

-- the waits so far
abbrev pub invariant-loop-wait : goal.invariant-loop-wait
invariant-loop-wait l = l.rows.items ≡ l.initial.rows.items ++ map (row_of_wait l.asker) (take l.wait-index l.wait-items)

use Rattle.std.proofs.Common.{◌≡◌, ◌≢◌, ℕ, true, take}
use Rattle.std.specs.List.{flat_map}
use Rattle.cmh_runs.specs.Number.{IsNumber}
use Rattle.cmh_model3.specs.Lists.{in_list}
use Rattle.cmh_controller3.specs.Controller.{state_of}
use Rattle.cmh_bases3.specs.Inner.Rows.{marks_from}
use Rattle.cmh_bases3.proofs.stamped.mark_rows.Given as goal

-- the rows of the processes so far
abbrev pub invariant-loop-process : goal.invariant-loop-process
invariant-loop-process l = record {
  rows : l.rows.items ≡ flat_map (marks_from (state_of l.controller)) (take l.process-index l.process-items);
  numbers : (k i : ℕ) → in_list (take l.process-index l.process-items) k ≡ true → (state_of l.controller).marks k i ≢ 0 → IsNumber i;
}

use Rattle.std.proofs.Common.{◌≡◌, ℕ, true, take}
use Rattle.std.specs.List.{flat_map}
use Rattle.cmh_runs.specs.Number.{IsNumber}
use Rattle.cmh_model3.specs.Lists.{in_list}
use Rattle.cmh_controller3.specs.Controller.{state_of}
use Rattle.cmh_bases3.specs.Inner.Rows.{pairs_from}
use Rattle.cmh_bases3.proofs.pairs.leaving_rows.Given as goal

-- the rows of the processes so far
abbrev pub invariant-loop-asker : goal.invariant-loop-asker
invariant-loop-asker l = record {
  rows : l.rows.items ≡ flat_map (pairs_from (state_of l.controller).leaving) (take l.asker-index l.asker-items);
  numbers : (a k : ℕ) → in_list (take l.asker-index l.asker-items) a ≡ true → (state_of l.controller).leaving a k ≡ true → IsNumber k;
}

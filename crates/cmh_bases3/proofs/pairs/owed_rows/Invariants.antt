use Rattle.std.proofs.Common.{◌≡◌, take}
use Rattle.std.specs.List.{flat_map}
use Rattle.cmh_controller3.specs.Controller.{state_of}
use Rattle.cmh_bases3.specs.Inner.Rows.{pairs_from}
use Rattle.cmh_bases3.proofs.pairs.owed_rows.Given as goal

-- the rows of the processes so far
abbrev pub invariant-loop-holder : goal.invariant-loop-holder
invariant-loop-holder l = l.rows.items ≡ flat_map (pairs_from (state_of l.controller).owed) (take l.holder-index l.holder-items)

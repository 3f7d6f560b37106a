use Rattle.std.proofs.Common.{◌≡◌, ℕ, ◌&&◌, ◌||◌, take}
use Rattle.cmh_controller3.specs.Controller.{state_of}
use Rattle.cmh_model3.specs.Lists.{in_list}
use Rattle.cmh_report3.specs.Inner.Pairs.{has_pair}
use Rattle.cmh_report3.proofs.declared.add_leaving.Given as goal

abbrev pub invariant-loop-member : goal.invariant-loop-member
invariant-loop-member l =
    (j k : ℕ) → has_pair l.leaving j k
    ≡ ((in_list (take l.member-index l.member-items) j && (state_of l.controller).leaving j k) || has_pair l.fn.leaving j k)

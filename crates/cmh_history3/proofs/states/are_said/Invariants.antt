use Rattle.std.proofs.Common.{take}
use Rattle.std.specs.List.{All}
use Rattle.cmh_history3.specs.Inner.Rows.{CanTurn}
use Rattle.cmh_history3.specs.Says.{IsSaid}
use Rattle.cmh_history3.proofs.states.are_said.Given as goal

-- the states of the controllers so far are said, and they can turn
abbrev pub invariant-loop-controller : goal.invariant-loop-controller
invariant-loop-controller l = record {
  said : All (IsSaid l.fn.epoch l.next) (take l.controller-index l.controllers);
  turn : All CanTurn (take l.controller-index l.controllers);
}

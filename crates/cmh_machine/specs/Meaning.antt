-- What the values of a machine mean.
use Rattle.std.specs.Prelude.{ℕ, List, Option}
use Rattle.cmh_runs.specs.declared.entry.Entry.{Entry}
use Rattle.cmh_machine.specs.Transitions.{Transitions}

-- Of a machine, the bases from which it may begin, its refusals, and the outcomes of its steps.
pub record MachineMeaning (Machine Base Refusal Outcome State Event Frame : Type 0) : Type 1 where
  -- what its written controller does
  pub transitions : Transitions State Event Frame
  -- the state of the written controller in which a machine stands
  pub state : Machine → State
  -- the state in which a machine begins
  pub start : Base → State
  -- why an event is refused in a state
  pub Refuses : State → Event → Refusal → Type 0
  -- what a step sent, each frame to a site, and whom it declared
  pub sent : Outcome → List (ℕ × Frame)
  pub declared : Outcome → Option ℕ
  -- what else is told of a step from a state
  pub Tells : State → Event → Outcome → Type 0
  -- the bytes of the entry of a step from a state
  pub spelling : State → Entry Event Frame → List ℕ

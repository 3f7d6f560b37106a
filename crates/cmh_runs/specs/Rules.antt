-- What a model says of its sites.
use Rattle.std.specs.Prelude.{ℕ, List, Option}

-- The rules of a site's controller, over the states, events and frames of a model.
pub record Rules (State Event Frame : Type 0) : Type 1 where
  -- the state in which it begins
  pub first : State
  -- the events that it accepts in a state
  pub Accepts : State → Event → Type 0
  -- what it sends at an event, each frame to a site, and whom it declares
  pub Sends : State → Event → List (ℕ × Frame) → Option ℕ → Type 0
  -- its state after an event at which it declared this
  pub after : State → Event → Option ℕ → State

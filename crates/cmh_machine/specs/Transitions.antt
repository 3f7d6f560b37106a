-- What a machine does at an event.
use Rattle.std.specs.Prelude.{ℕ, List, Option}
use Rattle.cmh_runs.specs.Rules.{Rules}

-- The rules of a machine but for the state in which it begins.
pub record Transitions (State Event Frame : Type 0) : Type 1 where
  -- the events that it accepts in a state
  pub Accepts : State → Event → Type 0
  -- what it sends at an event, each frame to a site, and whom it declares
  pub Sends : State → Event → List (ℕ × Frame) → Option ℕ → Type 0
  -- its state after an event at which it declared this
  pub after : State → Event → Option ℕ → State

-- the rules of a site that begins in this state
abbrev pub rules_from : {State Event Frame : Type 0} → Transitions State Event Frame → State → Rules State Event Frame
rules_from transitions base = record {
  first = base;
  Accepts = transitions.Accepts;
  Sends = transitions.Sends;
  after = transitions.after;
}

-- Events of clients that are given to a site together.
use Rattle.std.specs.Prelude.{ℕ, List}
use Rattle.cmh_model3.specs.declared.event.Event.{Event}

-- the events, and for each the place of the client that waits for its reply
pub record Batch : Type 0 where
  pub events : List Event
  pub places : List ℕ

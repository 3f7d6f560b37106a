-- Between the halves of a step.
use Rattle.std.specs.Prelude.{◌≡◌, ℕ, List, Option}
use Rattle.cmh_model3.specs.declared.event.Event.{Event}
use Rattle.cmh_model3.specs.declared.frame.Message.{Message}
use Rattle.cmh_model3.specs.Laws.{JournalFacts}
use Rattle.cmh_model3.specs.Rules.{Sends}
use Rattle.cmh_controller3.specs.Controller.{Controller, home_of, state_of}
use Rattle.cmh_controller3.specs.Steps.{CanTake, Remembers, prepared_state, process_in}
use Rattle.cmh_controller3.specs.declared.outcome.Declaration.{Declaration}
use Rattle.cmh_controller3.specs.declared.prepared.Before.{Before}

-- The controller stands between the halves of a step. What it takes to go back from there is remembered.
pub record StandsBetween (old : Controller) (event : Event) (kept : Before) (declared : Option Declaration) (new : Controller) : Type 0 where
  pub accepted : CanTake old event
  pub sends : (sent : List (ℕ × Message)) × Sends (home_of old) old.site (state_of old) event sent (process_in declared)
  pub topology : new.topology ≡ old.topology
  pub site : new.site ≡ old.site
  pub state : state_of new ≡ prepared_state (home_of old) old.site (state_of old) event (process_in declared)
  pub facts : JournalFacts (home_of old) old.site (state_of old)
  pub before : Remembers (state_of old) event kept

-- Where the second half of a step leads.
use Rattle.std.specs.Prelude.{◌≡◌, None}
use Rattle.cmh_model3.specs.declared.event.Event.{Event}
use Rattle.cmh_model3.specs.Rules.{after}
use Rattle.cmh_controller3.specs.Controller.{Controller, home_of, state_of}

-- a controller stands where the rules lead after an event that declares nothing
pub record Leads (old : Controller) (event : Event) (new : Controller) : Type 0 where
  pub topology : new.topology ≡ old.topology
  pub site : new.site ≡ old.site
  pub state : state_of new ≡ after (home_of old) old.site (state_of old) event None

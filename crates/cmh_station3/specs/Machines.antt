-- The machine of a site.
use Rattle.std.specs.Prelude.{◌≡◌, ◌≢◌}
use Rattle.cmh_controller3.specs.Controller.{Controller, home_of, state_of}
use Rattle.cmh_controller3.specs.Steps.{Prepares}
use Rattle.cmh_controller3.specs.WaysBack.{LeadsBack}
use Rattle.cmh_controller3.specs.declared.prepared.Prepared.{Prepared}
use Rattle.cmh_controller3.specs.declared.way_back.WayBack.{WayBack}
use Rattle.cmh_model3.specs.Entries.{Entry}
use Rattle.cmh_model3.specs.declared.event.Event.{Event}
use Rattle.cmh_segment3.specs.Steps.{HasEntry}
use Rattle.cmh_segment3.specs.WholeEntries.{IsWithin}
use Rattle.cmh_station3.specs.Sites.{Site}

-- its controller
pub record Machine : Type 0 where
  pub controller : Controller

-- the site of a controller, in the state in which it stands
abbrev pub site_at : Controller → Site
site_at c = record { topology = c.topology; number = c.site; state = state_of c }

abbrev pub site_of_machine : Machine → Site
site_of_machine m = site_at m.controller

-- the numbers that its entries have are within their limits
pub record FitsSegments (c : Controller) : Type 0 where
  pub site : c.site ≢ 0
  pub within : IsWithin (home_of c) c.site (state_of c)

-- its controller stood at the site, and has prepared the event
pub record IsPrepared (site : Site) (event : Event) (half : Prepared) (m : Machine) : Type 0 where
  pub old : Controller
  pub stood : site_at old ≡ site
  pub prepares : Prepares old event half m.controller
  pub has_entry : HasEntry event
  pub fits : FitsSegments old

-- there is a way back to a controller that stood at the site, from after the step of the entry
pub record WasBefore (site : Site) (entry : Entry) (way : WayBack) : Type 0 where
  pub old : Controller
  pub stood : site_at old ≡ site
  pub leads : LeadsBack old entry.event entry.declared way
  pub fits : FitsSegments old

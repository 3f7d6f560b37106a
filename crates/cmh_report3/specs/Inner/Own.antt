-- What a controller keeps of the processes of its site.
use Rattle.std.specs.Prelude.{◌≡◌, ℕ, true}
use Rattle.cmh_controller3.specs.Controller.{Controller, state_of}
use Rattle.cmh_topology3.specs.Topology.{site_of}

-- who is leaving somebody is a process of the site
abbrev pub LeavesOwn : Controller → Type 0
LeavesOwn c = (j k : ℕ) → (state_of c).leaving j k ≡ true → site_of c.topology j ≡ c.site

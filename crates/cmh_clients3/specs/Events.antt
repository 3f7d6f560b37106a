-- Events that clients have for a site.
use Rattle.std.specs.Prelude.{Bool, true, false}
use Rattle.cmh_model3.specs.declared.event.Event.{Event}
use Rattle.cmh_model3.specs.declared.event.Event.TheVariants.{Got}

-- whether it is a message that came, and no event of the site's own processes
abbrev pub is_got : Event → Bool
is_got (Got from clock frame) = true
is_got event = false

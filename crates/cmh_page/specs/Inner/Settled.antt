-- How it is found what becomes of a probe: two reasons to ignore it are seen before the controller takes it, and the third
-- by whether it acted.
use Rattle.std.specs.Prelude.{ℕ, Bool, true, false, not, List, if◌then◌else◌, Option, None, Some}
use Rattle.cmh_frames.specs.declared.frame.Frame.{Frame}
use Rattle.cmh_frames.specs.declared.frame.Frame.TheVariants.{Probe}
use Rattle.cmh_frames.specs.declared.event.Event.{Event}
use Rattle.cmh_frames.specs.declared.event.Event.TheVariants.{Got}
use Rattle.cmh_frames.specs.Relation.{has}
use Rattle.cmh_frames.specs.State.{State, is_blocked}
use Rattle.cmh_controller.specs.Controller.{Controller}
use Rattle.cmh_controller.specs.Steps.{Steps}
use Rattle.cmh_controller.specs.declared.refusal.Refusal.{Refusal}
use Rattle.cmh_controller.specs.declared.refusal.Refusal.TheVariants.{NotBlocked}
use Rattle.cmh_page.specs.declared.fate.Fate.{Fate}
use Rattle.cmh_page.specs.declared.fate.Fate.TheVariants.{Acts, Active, Answered, Known}

-- whether a start that is refused for this reason is that of a process which waits
abbrev pub is_of_blocked : Refusal → Bool
is_of_blocked NotBlocked = false
is_of_blocked refusal = true

abbrev pub first_reason : State → Event → Option Fate
first_reason v (Got a (Probe (origin, from, to))) =
    if not (is_blocked v to) then Some Active else (if not (has v.owed to from) then Some Answered else None)
first_reason v event = None

abbrev pub settled : Event → Option Fate → Bool → Option Fate
settled (Got a (Probe (origin, from, to))) (Some fate) acted = Some fate
settled (Got a (Probe (origin, from, to))) None true = Some Acts
settled (Got a (Probe (origin, from, to))) None false = Some Known
settled event reason acted = None

-- the controller took the event, whatever it sent and declared
abbrev pub StepsSomehow : Controller → Event → Controller → Type 0
StepsSomehow old event new = (sent : List (ℕ × Frame)) × (declared : Option ℕ) × Steps old event sent declared new

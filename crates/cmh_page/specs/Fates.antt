-- What becomes of a probe that comes to a process.
use Rattle.std.specs.Prelude.{ℕ, not, List, [], ◌∷◌, if◌then◌else◌, Option, None, Some}
use Rattle.cmh_frames.specs.declared.frame.Frame.TheVariants.{Probe}
use Rattle.cmh_frames.specs.Topology.{Topology}
use Rattle.cmh_frames.specs.declared.event.Event.{Event}
use Rattle.cmh_frames.specs.declared.event.Event.TheVariants.{Got}
use Rattle.cmh_frames.specs.Entries.{Entry}
use Rattle.cmh_frames.specs.Relation.{has}
use Rattle.cmh_frames.specs.State.{State, empty_state, is_blocked}
use Rattle.cmh_frames.specs.Rules.{after}
use Rattle.cmh_page.specs.declared.fate.Fate.{Fate}
use Rattle.cmh_page.specs.declared.fate.Fate.TheVariants.{Acts, Active, Answered, Known}

-- Of a probe of `origin` that `from` sent to `to`, in this state of the site: it acts where `probe_acts` says so; else
-- this is the first of the three reasons for which it is ignored.
abbrev pub fate_of : State → ℕ → ℕ → ℕ → Fate
fate_of v origin from to =
    if not (is_blocked v to) then Active
    else (if not (has v.owed to from) then Answered
    else (if has v.dependents to origin then Known else Acts))

-- of what an event got, where that is a probe
abbrev pub fate_in : State → Event → Option Fate
fate_in v (Got a (Probe (origin, from, to))) = Some (fate_of v origin from to)
fate_in v event = None

-- of what each entry got, in the state to which the entries before it lead
abbrev pub fates_from : Topology → ℕ → State → List Entry → List (Option Fate)
fates_from t s v [] = []
fates_from t s v (e ∷ es) = fate_in v e.event ∷ fates_from t s (after t s v e.event e.declared) es

abbrev pub fates_of : Topology → ℕ → List Entry → List (Option Fate)
fates_of t s entries = fates_from t s empty_state entries

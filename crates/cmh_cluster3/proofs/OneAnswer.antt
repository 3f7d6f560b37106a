-- A list of one event.
use Rattle.std.proofs.Common.{◌≡◌, List, [], ◌∷◌, ◌++◌, sym, ap, subst, ◌∙◌}
use Rattle.std.specs.List.{AllByRecursion}
use Rattle.cmh_model3.specs.declared.event.Event.{Event}
use Rattle.cmh_node3.specs.Steps.{IsOwn}

-- the one event is in the list
pub just_one : (events before pushed : List Event) (event : Event) → events ≡ pushed → pushed ≡ before ++ event ∷ [] → before ≡ [] → events ≡ event ∷ []
just_one events before pushed event same is none = same ∙ is ∙ ap (λ (es : List Event). es ++ event ∷ []) none

pub own_one : (events : List Event) (event : Event) → events ≡ event ∷ [] → IsOwn event → AllByRecursion IsOwn events
own_one events event is own = subst (AllByRecursion IsOwn) (sym is) (own, tt)

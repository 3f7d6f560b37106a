-- Which events are turns.
use Rattle.cmh_model3.specs.declared.event.Event.{Event}
use Rattle.cmh_model3.specs.declared.event.Event.TheVariants.{Turn}

abbrev pub IsTurn : Event → Type 0
IsTurn (Turn clock) = Unit {0}
IsTurn event = ⊥

-- What a merge is told of an event.
use Rattle.cmh_merge.specs.Walks.{GotFrom, GotNothing}
use Rattle.cmh_merge.specs.declared.walk.Next.{Next}
use Rattle.cmh_merge.specs.declared.walk.Next.TheVariants.{End, Own, Got}
use Rattle.cmh_model3.specs.declared.event.Event.{Event}
use Rattle.cmh_model3.specs.declared.frame.Message.{Message}
use Rattle.cmh_model3.specs.Journals.{message_from}

abbrev pub Tells : Event → Next → Type 0
Tells event End = ⊥
Tells event Own = GotNothing message_from event
Tells event (Got from) = (message : Message) × GotFrom message_from event from message

-- One event at a site of a world that is played.
use Rattle.std.specs.Prelude.{◌≡◌, ℕ}
use Rattle.cmh_model3.specs.declared.event.Event.{Event}
use Rattle.cmh_model3.specs.Journals.{message_from}
use Rattle.cmh_model3.specs.Runs as runs
use Rattle.cmh_model3.specs.Runs.{IsBeginningOf}
use Rattle.cmh_play3.specs.declared.playground.Step.{Step}
use Rattle.cmh_play3.specs.declared.playground.Step.TheVariants.{Taken, Refused}
use Rattle.cmh_play3.specs.World.{World, IsReason, Steps}

-- what the event got is the next message of its link to the site
abbrev pub IsNextAt : World → ℕ → Event → Type 0
IsNextAt world s event = (a : ℕ) → IsBeginningOf (message_from a event) (runs.under_way a s world.events)

-- what an event at the site s does to a world
abbrev pub IsStep : World → World → ℕ → Event → Step → Type 0
IsStep old new s event (Taken done) = Steps old new s event done
IsStep old new s event (Refused refusal) = IsReason old s event refusal × (new ≡ old)

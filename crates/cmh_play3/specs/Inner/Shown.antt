-- What a line does to the state of a script that is held.
use Rattle.std.specs.Prelude.{◌≡◌, ℕ, List, [], ⊤}
use Rattle.cmh_model3.specs.Entries.{WorldEvent}
use Rattle.cmh_model3.specs.Journals.{message_from}
use Rattle.cmh_script3.specs.declared.script.Command.TheVariants.{Act}
use Rattle.cmh_script3.specs.declared.script.Line.{Line}
use Rattle.cmh_script3.specs.declared.script.Line.TheVariants.{Command as Command_line}
use Rattle.cmh_play3.specs.Held.{IsShown, shown}
use Rattle.cmh_play3.specs.PlayStates.{PlayState}
use Rattle.cmh_play3.specs.declared.play.PlayState.{PlayState as HeldState}
use Rattle.cmh_play3.specs.declared.play.PlayState.TheVariants.{Named as HeldNamed}

-- neither sites nor commands
abbrev pub IsNewHeld : HeldState → Type 0
IsNewHeld held = held ≡ HeldNamed []

-- it shows some state
abbrev pub IsHeld : HeldState → Type 0
IsHeld held = (events : List WorldEvent) × IsShown events held

-- it shows a state of which this holds
pub record LeadsOnTo (new : HeldState) (Done : PlayState → Type 0) : Type 0 where
  pub events : List WorldEvent
  pub held : IsShown events new
  pub done : Done (shown new events)

-- of each state that was shown one is shown that is related to it
abbrev pub LeadsOn : (PlayState → PlayState → Type 0) → HeldState → HeldState → Type 0
LeadsOn Related old new = (events : List WorldEvent) → IsShown events old → LeadsOnTo new (Related (shown old events))

-- by no line of a script a site gets a message
abbrev pub GetsNothing : Line → Type 0
GetsNothing (Command_line (Act process event)) = (a : ℕ) → message_from a event ≡ []
GetsNothing line = ⊤

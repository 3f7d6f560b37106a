-- What comes of what happens on the link to another site: each is what the contract of a call of the sender's end says.
use Rattle.std.specs.Prelude.{◌≡◌, ◌⊎◌, ℕ}
use Rattle.cmh_resume3.specs.declared.acknowledgement.Acknowledgement.{Acknowledgement}
use Rattle.cmh_resume3.specs.declared.answer.Answer.{Answer}
use Rattle.cmh_resume3.specs.declared.refusal.Refusal.{Refusal}
use Rattle.cmh_resume3.specs.Sender.{HearsAcknowledgement, HearsAnswer, IsAsked, IsDown, IsRunning, Sender, ended_state, pause_of, state_by, task_of, with_state}
use Rattle.cmh_resume3.specs.declared.sender.Heard.{Heard}
use Rattle.cmh_resume3.specs.declared.sender.Heard.TheVariants as heard
use Rattle.cmh_resume3.specs.declared.sender.State.TheVariants as state
use Rattle.cmh_resume3.specs.declared.sender.Task.{Task}
use Rattle.cmh_resume3.specs.declared.sender.Task.TheVariants as task
use Rattle.cmh_node3.specs.declared.happening.Action.{Action}
use Rattle.cmh_node3.specs.declared.happening.Action.TheVariants.{Rest, Dial, Greet, Note, Refuse, Close, Turn}
use Rattle.cmh_node3.specs.declared.happening.Happening.{Happening}
use Rattle.cmh_node3.specs.declared.happening.Happening.TheVariants.{Dialled, Answered, Refused, Acknowledged, Ended, Passed}

-- what is to be done about what was heard, and at a time
abbrev pub action_of : Heard → Action
action_of heard.Turn = Turn
action_of heard.GoOn = Rest
action_of (heard.Refuse mismatch) = Refuse mismatch
action_of heard.Close = Close

abbrev pub action_by : Task → Action
action_by task.Rest = Rest
action_by task.Dial = Dial
action_by task.End = Close
action_by task.Note = Note

-- What could not come at this time closes the connection, and changes nothing.
pub record IsUntimely (CanCome : Type 0) (s n : Sender) (action : Action) : Type 0 where
  pub untimely : CanCome → ⊥
  pub same : n ≡ s
  pub closes : action ≡ Close

pub record Dials (s : Sender) (now : ℕ) (n : Sender) (action : Action) : Type 0 where
  pub down : IsDown s.state
  pub after : n ≡ with_state s (state.Asked now (pause_of s.state))
  pub greets : action ≡ Greet

pub record HearsRefusal (s : Sender) (refusal : Refusal) (n : Sender) (action : Action) : Type 0 where
  pub asked : IsAsked s.state
  pub after : n ≡ with_state s (state.Refused refusal)
  pub closes : action ≡ Close

-- something was heard, with this outcome
pub record HearsSo (CanCome : Type 0) (Hears : Heard → Type 0) (action : Action) : Type 0 where
  pub timely : CanCome
  pub heard : Heard
  pub hears : Hears heard
  pub acts : action ≡ action_of heard

abbrev pub DoesDial : Sender → ℕ → Sender → Action → Type 0
DoesDial s now n action = Dials s now n action ⊎ IsUntimely (IsDown s.state) s n action

abbrev pub DoesHearAnswer : Sender → Answer → ℕ → ℕ → Sender → Action → Type 0
DoesHearAnswer s a epoch now n action =
    HearsSo (IsAsked s.state) (HearsAnswer s a epoch now n) action ⊎ IsUntimely (IsAsked s.state) s n action

abbrev pub DoesHearRefusal : Sender → Refusal → Sender → Action → Type 0
DoesHearRefusal s refusal n action = HearsRefusal s refusal n action ⊎ IsUntimely (IsAsked s.state) s n action

abbrev pub DoesHearAcknowledgement : Sender → Acknowledgement → ℕ → ℕ → Sender → Action → Type 0
DoesHearAcknowledgement s a epoch now n action =
    HearsSo (IsRunning s.state) (HearsAcknowledgement s a epoch now n) action ⊎ IsUntimely (IsRunning s.state) s n action

abbrev pub DoesEnd : Sender → ℕ → Sender → Action → Type 0
DoesEnd s now n action = (n ≡ with_state s (ended_state now s.state)) × (action ≡ Rest)

abbrev pub DoesPass : Sender → ℕ → Sender → Action → Type 0
DoesPass s now n action = (n ≡ with_state s (state_by now s.state (task_of now s.state)))
    × (action ≡ action_by (task_of now s.state))

abbrev pub Does : Sender → Happening → ℕ → ℕ → Sender → Action → Type 0
Does s Dialled epoch now n action = DoesDial s now n action
Does s (Answered a) epoch now n action = DoesHearAnswer s a epoch now n action
Does s (Refused refusal) epoch now n action = DoesHearRefusal s refusal n action
Does s (Acknowledged a) epoch now n action = DoesHearAcknowledgement s a epoch now n action
Does s Ended epoch now n action = DoesEnd s now n action
Does s Passed epoch now n action = DoesPass s now n action

-- The sender's end of a link, and what each call makes of it. Times are milliseconds.
use Rattle.std.specs.Prelude.{◌≡◌, ◌≢◌, ℕ, ◌+◌, ◌-◌, ◌*◌, ◌<◌, ◌≤◌, ◌==◌, if◌then◌else◌, nat_le, min, max, List, [], ◌∷◌, ◌++◌, length, take, drop, slice_get, Option, None, Some}
use Rattle.cmh_model3.specs.declared.frame.Message.{Message}
use Rattle.cmh_wire3.specs.Mark.{first_mark, mark_on}
use Rattle.cmh_wire3.specs.Wire.{spelled}
use Rattle.cmh_resume3.specs.declared.acknowledgement.Acknowledgement.{Acknowledgement}
use Rattle.cmh_resume3.specs.declared.answer.Answer.{Answer}
use Rattle.cmh_resume3.specs.declared.refusal.Mismatch.TheVariants.{MoreThanSent, OtherFrames, LessThanAcknowledged}
use Rattle.cmh_resume3.specs.declared.sender.Heard.{Heard}
use Rattle.cmh_resume3.specs.declared.sender.Heard.TheVariants.{Turn, GoOn, Refuse, Close}
use Rattle.cmh_resume3.specs.declared.sender.State.{State}
use Rattle.cmh_resume3.specs.declared.sender.State.TheVariants.{Down, Asked, Running, Refused, Mismatched}
use Rattle.cmh_resume3.specs.declared.sender.Task.{Task}
use Rattle.cmh_resume3.specs.declared.sender.Task.TheVariants.{Rest, Dial, End, Note}

-- How many of the link's messages the receiver is known to have synced, their mark, those after them, and the connection.
pub record Sender : Type 0 where
  pub acked : ℕ
  pub mark : ℕ
  pub kept : List Message
  pub state : State

-- how many messages it was given, over all lives of its site
abbrev pub sent : Sender → ℕ
sent s = s.acked + length s.kept

-- the mark of its first so many messages, of those acknowledged at least
abbrev pub mark_at : Sender → ℕ → ℕ
mark_at s count = mark_on s.mark (spelled (take (count - s.acked) s.kept))

-- The messages that it was given since so many of this mark are these: those acknowledged since then, with which it has its
-- count and its mark, and those kept.
pub record StandsSince (count mark : ℕ) (s : Sender) (messages : List Message) : Type 0 where
  pub past : List Message
  pub count_is : count + length past ≡ s.acked
  pub mark_is : mark_on mark (spelled past) ≡ s.mark
  pub all : past ++ s.kept ≡ messages

-- the messages that it was ever given
abbrev pub StandsFor : Sender → List Message → Type 0
StandsFor s messages = StandsSince 0 first_mark s messages

-- ---- states

abbrev pub IsDown : State → Type 0
IsDown (Down since pause) = Unit {0}
IsDown state = ⊥

abbrev pub IsAsked : State → Type 0
IsAsked (Asked since pause) = Unit {0}
IsAsked state = ⊥

abbrev pub IsRunning : State → Type 0
IsRunning (Running next spoke heard) = Unit {0}
IsRunning state = ⊥

-- the pause before the next dial: none at first, then 50 ms, and twice as long each time, to 1 s
abbrev pub pause_of : State → ℕ
pause_of (Down since pause) = pause
pause_of (Asked since pause) = pause
pause_of state = 0

abbrev pub next_pause : ℕ → ℕ
next_pause pause = min 1000 (max 50 (2 * pause))

-- the state after the end of a connection, or a dial in vain
abbrev pub ended_state : ℕ → State → State
ended_state now (Refused refusal) = Refused refusal
ended_state now (Mismatched mismatch) = Mismatched mismatch
ended_state now state = Down now (next_pause (pause_of state))

abbrev pub with_state : Sender → State → Sender
with_state s state = record s { state = state }

-- the number of messages before the next one, when something was written last, and when one last heard that an
-- acknowledgement came or none was due
abbrev pub next_of : State → ℕ
next_of (Running next spoke heard) = next
next_of state = 0

abbrev pub spoke_of : State → ℕ
spoke_of (Running next spoke heard) = spoke
spoke_of state = 0

abbrev pub heard_of : State → ℕ
heard_of (Running next spoke heard) = heard
heard_of state = 0

-- an end that dials at once
abbrev pub fresh_sender : ℕ → ℕ → List Message → Sender
fresh_sender acked mark kept = record { acked = acked; mark = mark; kept = kept; state = Down 0 0 }

-- it was given one message more
abbrev pub with_kept : Message → Sender → Sender
with_kept message s = record s { kept = s.kept ++ message ∷ [] }

-- a note was written
abbrev pub noted_state : ℕ → State → State
noted_state now (Running next spoke heard) = Running next now heard
noted_state now state = state

-- ---- what is heard

-- the receiver is known to have so many, and those that are kept of them are given up
abbrev pub known_to : ℕ → State → Sender → Sender
known_to count state s = record { acked = count; mark = mark_at s count; kept = drop (count - s.acked) s.kept; state = state }

-- all acknowledged messages are among the first so many, and so many were sent
pub record IsOpen (s : Sender) (count : ℕ) : Type 0 where
  pub least : s.acked ≤ count
  pub most : count ≤ sent s

-- What an answer makes of an end that has asked, and what is to be done: turn to the answer's epoch first; go on after the
-- messages that the receiver has, where their count and mark agree; or refuse.
abbrev pub HearsAnswer : Sender → Answer → ℕ → ℕ → Sender → Heard → Type 0
HearsAnswer s a epoch now n Turn = (epoch < a.hello.epoch) × (n ≡ s)
HearsAnswer s a epoch now n GoOn = (a.hello.epoch ≤ epoch) × IsOpen s a.count × (a.mark ≡ mark_at s a.count)
    × (n ≡ known_to a.count (Running a.count now now) s)
HearsAnswer s a epoch now n (Refuse MoreThanSent) = (a.hello.epoch ≤ epoch) × (sent s < a.count)
    × (n ≡ with_state s (Mismatched MoreThanSent))
HearsAnswer s a epoch now n (Refuse OtherFrames) = (a.hello.epoch ≤ epoch) × IsOpen s a.count × (a.mark ≢ mark_at s a.count)
    × (n ≡ with_state s (Mismatched OtherFrames))
HearsAnswer s a epoch now n (Refuse LessThanAcknowledged) = (a.hello.epoch ≤ epoch) × (a.count < s.acked)
    × (n ≡ with_state s (Mismatched LessThanAcknowledged))
HearsAnswer s a epoch now n Close = ⊥

-- What an acknowledgement makes of an end that runs: turn first; give up what the receiver has; refuse where that is more
-- than was sent; and end the connection where it is more than was written on it. One of no more than is known changes only
-- the time.
abbrev pub HearsAcknowledgement : Sender → Acknowledgement → ℕ → ℕ → Sender → Heard → Type 0
HearsAcknowledgement s a epoch now n Turn = (epoch < a.epoch) × (n ≡ s)
HearsAcknowledgement s a epoch now n GoOn = (a.epoch ≤ epoch) × (a.count ≤ next_of s.state)
    × (n ≡ known_to (max s.acked a.count) (Running (next_of s.state) (spoke_of s.state) now) s)
HearsAcknowledgement s a epoch now n (Refuse MoreThanSent) = (a.epoch ≤ epoch) × (sent s < a.count)
    × (n ≡ with_state s (Mismatched MoreThanSent))
HearsAcknowledgement s a epoch now n (Refuse OtherFrames) = ⊥
HearsAcknowledgement s a epoch now n (Refuse LessThanAcknowledged) = ⊥
HearsAcknowledgement s a epoch now n Close = (a.epoch ≤ epoch) × (next_of s.state < a.count) × (a.count ≤ sent s)
    × (n ≡ with_state s (ended_state now s.state))

-- ---- what is written

-- an end that runs gave this message to be written, and is past it
pub record WritesNext (s : Sender) (now : ℕ) (message : Message) (n : Sender) : Type 0 where
  pub running : IsRunning s.state
  pub message_is : slice_get s.kept (next_of s.state - s.acked) ≡ Some message
  pub after : n ≡ with_state s (Running (next_of s.state + 1) now (if next_of s.state == s.acked then now else heard_of s.state))

-- the next message that is to be written, if the end runs and has not written all
abbrev pub GivesNext : Sender → ℕ → Sender → Option Message → Type 0
GivesNext s now n (Some message) = WritesNext s now message n
GivesNext s now n None = (n ≡ s) × (IsRunning s.state → next_of s.state ≡ sent s)

-- ---- what time brings

-- What is to be done in a state at this time: dial where the pause is over; end a connection whose answer did not come in
-- 10 s, or on which no acknowledgement came for 15 s, since notes are acknowledged too; write a note where nothing was
-- written for 5 s.
abbrev pub task_of : ℕ → State → Task
task_of now (Down since pause) = if nat_le pause (now - since) then Dial else Rest
task_of now (Asked since pause) = if nat_le 10000 (now - since) then End else Rest
task_of now (Running next spoke heard) =
    if nat_le 15000 (now - heard) then End else (if nat_le 5000 (now - spoke) then Note else Rest)
task_of now state = Rest

-- what becomes of the state by it
abbrev pub state_by : ℕ → State → Task → State
state_by now state End = ended_state now state
state_by now state Note = noted_state now state
state_by now state task = state

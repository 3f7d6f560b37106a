-- A link as it is at a moment: two journals, the two ends, and the connections between them.
use Rattle.std.specs.Prelude.{◌≡◌, ℕ, ◌+◌, Bool, true, false, List, [], ◌∷◌, ◌++◌, ◌==◌, if◌then◌else◌, Option, None}
use Rattle.cmh_model3.specs.declared.frame.Message.{Message}
use Rattle.cmh_resume3.specs.declared.acknowledgement.Acknowledgement.{Acknowledgement}
use Rattle.cmh_resume3.specs.declared.answer.Answer.{Answer}
use Rattle.cmh_resume3.specs.declared.sender.State.TheVariants.{Down}
use Rattle.cmh_wire3.specs.Mark.{first_mark}
use Rattle.cmh_resume3.specs.Receiver.{Receiver, opened}
use Rattle.cmh_resume3.specs.Sender.{Sender}

-- What a connection holds: whether its hello is still to be read, the answer to it, the messages that are still to be taken,
-- and all acknowledgements; and whether nothing was lost on it.
pub record Line : Type 0 where
  pub hello : Bool
  pub answer : Option Answer
  pub frames : List Message
  pub acks : List Acknowledgement
  pub whole : Bool

-- Of the sendings in the sender's journal: those that are synced and that its end was given, those that are synced and that
-- it was not given yet, and those that are written only. Of the receipts in the receiver's journal: those that are synced,
-- and those that are written only. How many connections were dialled: they are numbered in this order.
pub record Link : Type 0 where
  pub handed : List Message
  pub waiting : List Message
  pub written : List Message
  pub out : Sender
  pub got : List Message
  pub fresh : List Message
  pub into : Receiver
  pub dialled : ℕ
  pub line : ℕ → Line

-- the synced sendings
abbrev pub synced_sendings : Link → List Message
synced_sendings l = l.handed ++ l.waiting

-- the receipts, synced or not
abbrev pub receipts : Link → List Message
receipts l = l.got ++ l.fresh

-- the connection that was dialled last, which is the only one on which the sender speaks
abbrev pub IsNewest : Link → ℕ → Type 0
IsNewest l c = c + 1 ≡ l.dialled

-- a connection on which nothing was said
abbrev pub silent_line : Line
silent_line = record { hello = false; answer = None; frames = []; acks = []; whole = true }

-- at one connection this, and at each other one what was there
abbrev pub at_one : (ℕ → Line) → ℕ → Line → ℕ → Line
at_one lines c line d = if d == c then line else lines d

-- the sender writes a message on a connection; what was lost on before holds nothing more
abbrev pub with_frame : Message → Line → Line
with_frame message line = record line { frames = if line.whole then line.frames ++ message ∷ [] else line.frames }

-- a link of two new sites
abbrev pub new_link : Link
new_link = record {
  handed = [];
  waiting = [];
  written = [];
  out = record { acked = 0; mark = first_mark; kept = []; state = Down 0 0 };
  got = [];
  fresh = [];
  into = opened 0 first_mark false;
  dialled = 0;
  line = λ c. silent_line;
}
